use Rattle.std.proofs.Common.{rules, arith, refl, ap, drop, length, length-take, ◌≡◌, ◌-◌, nat_lt, false, ℕ, [], ◌∷◌}
use Rattle.enc_io.specs.Marks.{bom_bytes}
use Rattle.enc_io.proofs.PeekerLemmas.{moves_gathered, moves_part, moved_front, taken_more, gathered_few, gathered_whole, gathers_part, gathers_all, joined_bytes, gathered_bytes}
use Rattle.std.proofs.lemmas.Bool.{ltb-false}
use Rattle.enc_io.proofs.peeker.BomPeeker.gather.Given.{Over}
use Rattle.enc_io.proofs.peeker.BomPeeker.gather.Goals as goal
use Rattle.enc_io.proofs.peeker.BomPeeker.gather.Goals.{else-count-room-via-then-count-room+else-self-lt3, else-count-room-via-else-count-room}

gathered_three : (g : Over) (c : goal.After-self-in-Ok-1 g) → nat_lt c.in-Ok.count (c.min.result - c.args.self.now.bom.len) ≡ false → c.with-self.result.len ≡ 3
gathered_three g c e =
    let bom = c.with-self.result in
    let full = ltb-false c.in-Ok.count (c.min.result - c.args.self.now.bom.len) e in
    elim c.else-count-room.branch [
      | else-count-room-via-then-count-room+else-self-lt3 w ↦ omega (arith, bom.within)
      | else-count-room-via-else-count-room w ↦ absurd (w.if-count-room.false (omega (arith, c.in-Ok.ensures.within.0, length-take {A = ℕ} (c.min.result - c.args.self.now.bom.len) (0 ∷ 0 ∷ 0 ∷ []))))
    ]

pub returns-in-Err-clause-moves : goal.returns-in-Err-clause-moves
returns-in-Err-clause-moves g c =
    let bom = c.with-self-in-Err.result in
    moves_part _ _ _ _ _ c.requires.unpeeked c.requires.unpeeked refl c.with-self-in-Err.ensures.bytes
    (gathered_few bom.bytes bom.len bom.within)
    (moved_front _ _ _ _ _ (omega (arith, c.in-Err.ensures.within_err)) c.in-Err.ensures.moved_err)

pub returns-in-Err-clause-taken : goal.returns-in-Err-clause-taken
returns-in-Err-clause-taken g c =
    taken_more _ _ _ _ _ c.with-self-in-Err.ensures.bytes (moved_front _ _ _ _ _ (omega (arith, c.in-Err.ensures.within_err)) c.in-Err.ensures.moved_err)

pub returns-else-count-room-clause-moves : goal.returns-else-count-room-clause-moves
returns-else-count-room-clause-moves g c =
    let bom = c.with-self.result in
    let front = c.front_len-self.ensures in
    let array : length bom.bytes ≡ 3 = search rules in
    moves_gathered _ _ _ _ _ c.requires.unpeeked refl refl c.with-self.ensures.bytes
    (ap (λ k. drop k (bom_bytes bom)) front.len)
    (omega (arith, front.len, front.within))
    (gathered_few bom.bytes bom.len bom.within)
    (λ e. gathered_whole bom.bytes bom.len array (gathered_three g c e))
    (moved_front _ _ _ _ _ c.in-Ok.ensures.within.0 c.in-Ok.ensures.moved)

pub returns-in-Err-clause-gathers : goal.returns-in-Err-clause-gathers
returns-in-Err-clause-gathers g c =
    let bom = c.with-self-in-Err.result in
    gathers_part _ _ _ _ _ c.requires.unpeeked refl c.with-self-in-Err.ensures.bytes
    (joined_bytes _ _ _ c.with-self-in-Err.ensures.bytes (gathered_bytes bom.bytes bom.len bom.are_bytes))
    (moved_front _ _ _ _ _ (omega (arith, c.in-Err.ensures.within_err)) c.in-Err.ensures.moved_err)

pub returns-else-count-room-clause-gathers : goal.returns-else-count-room-clause-gathers
returns-else-count-room-clause-gathers g c =
    let bom = c.with-self.result in
    let front = c.front_len-self.ensures in
    let array : length bom.bytes ≡ 3 = search rules in
    gathers_all _ _ _ _ _ refl c.with-self.ensures.bytes
    (ap (λ k. drop k (bom_bytes bom)) front.len)
    (omega (arith, front.len, front.within))
    (λ e. gathered_whole bom.bytes bom.len array (gathered_three g c e))
    (joined_bytes _ _ _ c.with-self.ensures.bytes (gathered_bytes bom.bytes bom.len bom.are_bytes))
    (moved_front _ _ _ _ _ c.in-Ok.ensures.within.0 c.in-Ok.ensures.moved)
