-- What the calls of a reader behind a mark do.
use Rattle.std.proofs.Common.{◌≡◌, ℕ, ◌+◌, ◌-◌, ◌<◌, ◌≤◌, Bool, true, false, true≢false, nat_lt, if◌then◌else◌, List, [], ◌∷◌, ◌++◌, length, take, drop, replicate, None, Some, Ok, Err, Result, IfOk, subst, sym, ap, refl, ◌∙◌, arith, append_assoc, append-nil, take-append-drop, length-take, length-take-le, length-drop}
use Rattle.std.specs.declared.option.Option.{Option}
use Rattle.std.specs.Option.{option_map_or, ForSome}
use Rattle.std.specs.Io.KnownBytes.{Consumes, Keeps, IsAtEnd, ReadConsumes}
use Rattle.std.proofs.KnownBytes.{Consumes-trans, Consumes-nil}
use Rattle.std.proofs.lemmas.List.{drop-drop, take-append-le, drop-append-le, drop-replicate, drop-take, take_all}
use Rattle.std.proofs.lemmas.List.Elements.{All-nil, All-take, All-drop, All-append}
use Rattle.std.proofs.Math.Seq.{drop-append_seam, drop-length}
use Rattle.std.proofs.lemmas.Bool.{ltb-false}
use Rattle.std.proofs.lemmas.Slice.{drop-put_mid}
use borrow.Rule.Slice.PartMut.{put_mid}
use Rattle.enc_front.specs.declared.encoding.Encoding.{Encoding}
use Rattle.enc_front.specs.Marks.{mark}
use Rattle.enc_io.specs.Marks.{front_length}
use Rattle.enc_drivers.specs.Units.{AreBytes}
use Rattle.enc_io.specs.Peeker.{PeekerStanding, PeekerMoves, Gathers, GivesNext, HasGivenAll, stream_bytes, still, still_known, given_by}

-- behind an appended part the bytes are still zeroes
pub zeros_behind : (bytes part copied : List ℕ) (len end : ℕ) → length bytes ≡ 3 → end ≡ len + length part → end ≤ 3 → copied ≡ part → drop len bytes ≡ replicate (3 - len) 0
    → drop end (put_mid len (end - len) bytes copied) ≡ replicate (3 - end) 0
zeros_behind bytes part copied len end whole is_end within is_part zeros =
    drop-put_mid len (end - len) bytes copied end (omega arith) (omega arith) (omega (arith, ap length is_part))
    ∙ ap (λ k. drop k bytes) is_end
    ∙ sym (drop-drop (length part) len bytes)
    ∙ ap (drop (length part)) zeros
    ∙ drop-replicate (length part) (3 - len) 0
    ∙ ap (λ k. replicate k 0) (omega arith)

-- the first bytes of those that wait were given
pub given_front : (buf slice waiting all : List ℕ) (n place : ℕ) → take n buf ≡ take n slice → slice ≡ waiting → waiting ≡ drop place all → waiting ≡ take n buf ++ drop (place + n) all
given_front buf slice waiting all n place given is_slice is_waiting =
    sym (take-append-drop n waiting)
    ∙ ap (λ l. l ++ drop n waiting) (sym (given ∙ ap (take n) is_slice))
    ∙ ap (λ l. take n buf ++ l) (ap (drop n) is_waiting ∙ drop-drop n place all)

-- the slice of a buffer between two places
pub slice_waits : (place len : ℕ) (buf : List ℕ) → place ≤ len → take (len - place) (drop place buf) ≡ drop place (take len buf)
slice_waits place len buf within = sym (ap (λ k. drop place (take k buf)) (omega arith) ∙ drop-take place (len - place) buf)

-- a fault moved nothing
pub kept_nothing : (left left' : Option (List ℕ)) → Keeps left left' → Consumes left left' []
kept_nothing None left' kept = tt
kept_nothing (Some l) None kept = absurd kept
kept_nothing (Some l) (Some l') kept = sym kept

-- three bytes decide which mark begins them
pub mark_of_three : (bytes rest : List ℕ) → length bytes ≡ 3 → mark (bytes ++ rest) ≡ mark bytes
mark_of_three [] rest e = absurd (omega (arith, e))
mark_of_three (a ∷ []) rest e = absurd (omega (arith, e))
mark_of_three (a ∷ b ∷ []) rest e = absurd (omega (arith, e))
mark_of_three (a ∷ b ∷ c ∷ []) rest e = refl
mark_of_three (a ∷ b ∷ c ∷ d ∷ more) rest e = absurd (omega (arith, e))

same_mark : (ended : Bool) (bytes rest : List ℕ) → (ended ≡ false → length bytes ≡ 3) → (ended ≡ true → rest ≡ []) → mark (bytes ++ rest) ≡ mark bytes
same_mark false bytes rest whole none = mark_of_three bytes rest (whole refl)
same_mark true bytes rest whole none = ap mark (ap (λ l. bytes ++ l) (none refl) ∙ append-nil bytes)

behind_mark : (bytes rest : List ℕ) (found : Option (Encoding × ℕ)) → option_map_or (λ m. m.1) found 0 ≤ length bytes
    → option_map_or (λ m. drop m.1 (bytes ++ rest)) found (bytes ++ rest) ≡ drop (option_map_or (λ m. m.1) found 0) bytes ++ rest
behind_mark bytes rest None within = refl
behind_mark bytes rest (Some m) within = drop-append-le m.1 bytes rest within

-- what is given of a stream whose first bytes tell its mark
behind_front : (strips : Bool) (bytes rest : List ℕ) → mark (bytes ++ rest) ≡ mark bytes → front_length strips bytes ≤ length bytes
    → stream_bytes strips (bytes ++ rest) ≡ drop (front_length strips bytes) bytes ++ rest
behind_front true bytes rest same within =
    ap (λ m. option_map_or (λ f. drop f.1 (bytes ++ rest)) m (bytes ++ rest)) same ∙ behind_mark bytes rest (mark bytes) within
behind_front false bytes rest same within = refl

still_peeked : (at : PeekerStanding) (rest : List ℕ) → at.peeked ≡ true → still at rest ≡ at.waiting ++ rest
still_peeked at rest e = ap (λ b. if b then at.waiting ++ rest else stream_bytes at.strips (at.gathered ++ rest)) e

still_unpeeked : (at : PeekerStanding) (rest : List ℕ) → at.peeked ≡ false → still at rest ≡ stream_bytes at.strips (at.gathered ++ rest)
still_unpeeked at rest e = ap (λ b. if b then at.waiting ++ rest else stream_bytes at.strips (at.gathered ++ rest)) e

pub take_twice : (bytes more : List ℕ) → take 3 (take 3 bytes ++ more) ≡ take 3 (bytes ++ more)
take_twice [] more = refl
take_twice (a ∷ []) more = refl
take_twice (a ∷ b ∷ []) more = refl
take_twice (a ∷ b ∷ c ∷ rest) more = refl

-- how many bytes were gathered
pub gathered_few : (bytes : List ℕ) (len : ℕ) → len ≤ 3 → length (take len bytes) ≤ 3
gathered_few bytes len within = omega (arith, length-take len bytes)

pub gathered_whole : (bytes : List ℕ) (len : ℕ) → length bytes ≡ 3 → len ≡ 3 → length (take len bytes) ≡ 3
gathered_whole bytes len whole e = length-take-le len bytes (omega arith) ∙ e

-- a filled part has all three
pub gathered_all : (count len total : ℕ) (buf rest : List ℕ) → nat_lt count (3 - len) ≡ false → count ≤ length buf → total ≡ len + length (take count (buf ++ rest))
    → len ≤ 3 → total ≤ 3 → total ≡ 3
gathered_all count len total buf rest full within sum few few' =
    omega (arith, ltb-false count (3 - len) full, ap length (take-append-le count buf rest within), length-take-le count buf within)

-- what was moved stands at the front of a longer buffer
pub moved_front : (left left' : Option (List ℕ)) (n : ℕ) (buf rest : List ℕ) → n ≤ length buf → Consumes left left' (take n buf) → Consumes left left' (take n (buf ++ rest))
moved_front left left' n buf rest within moved = subst (Consumes left left') (sym (take-append-le n buf rest within)) moved

-- what was moved is what was gathered
pub taken_more : (left left' : Option (List ℕ)) (before after moved : List ℕ) → after ≡ before ++ moved → Consumes left left' moved → Consumes left left' (drop (length before) after)
taken_more left left' before after moved grown consumed =
    subst (Consumes left left') (sym (ap (drop (length before)) grown ∙ drop-append_seam before moved)) consumed

pub taken_nothing : (left : Option (List ℕ)) (bytes : List ℕ) → Consumes left left (drop (length bytes) bytes)
taken_nothing left bytes = subst (Consumes left left) (sym (drop-length bytes)) (Consumes-nil left)

pub gathered_stays : (ended : Bool) (bytes moved : List ℕ) → length bytes ≤ 3 → (ended ≡ false → length bytes ≡ 3) → (ended ≡ true → moved ≡ []) → take 3 (bytes ++ moved) ≡ bytes
gathered_stays false bytes moved few whole none = take-append-le 3 bytes moved (omega (arith, whole refl)) ∙ take_all 3 bytes few
gathered_stays true bytes moved few whole none = ap (λ l. take 3 (bytes ++ l)) (none refl) ∙ ap (take 3) (append-nil bytes) ∙ take_all 3 bytes few

-- no byte was moved
pub moves_nothing : (left : Option (List ℕ)) (at : PeekerStanding) → length at.gathered ≤ 3 → PeekerMoves left left at at []
moves_nothing left at few = record {
  moved = [];
  consumed = Consumes-nil left;
  equation = λ rest none. refl;
  gathered = sym (ap (take 3) (append-nil at.gathered) ∙ take_all 3 at.gathered few);
  same_strips = refl;
}

-- all bytes for the mark were gathered
pub moves_gathered : (left left' : Option (List ℕ)) (a b : PeekerStanding) (moved : List ℕ) → a.peeked ≡ false → b.peeked ≡ true → b.strips ≡ a.strips
    → b.gathered ≡ a.gathered ++ moved → b.waiting ≡ drop (front_length b.strips b.gathered) b.gathered → front_length b.strips b.gathered ≤ length b.gathered
    → length b.gathered ≤ 3 → (b.ended ≡ false → length b.gathered ≡ 3) → Consumes left left' moved → PeekerMoves left left' a b []
moves_gathered left left' a b moved unpeeked done strips grown waiting front few whole consumed = record {
  moved = moved;
  consumed = consumed;
  equation = λ rest none.
      still_unpeeked a (moved ++ rest) unpeeked
      ∙ ap (stream_bytes a.strips) (sym (append_assoc a.gathered moved rest) ∙ ap (λ l. l ++ rest) (sym grown))
      ∙ ap (λ s. stream_bytes s (b.gathered ++ rest)) (sym strips)
      ∙ behind_front b.strips b.gathered rest (same_mark b.ended b.gathered rest whole none) front
      ∙ ap (λ l. l ++ rest) (sym waiting)
      ∙ sym (still_peeked b rest done);
  gathered = sym (take_all 3 b.gathered few) ∙ ap (take 3) grown;
  same_strips = strips;
}

-- some bytes for the mark were gathered
pub moves_part : (left left' : Option (List ℕ)) (a b : PeekerStanding) (moved : List ℕ) → a.peeked ≡ false → b.peeked ≡ false → b.strips ≡ a.strips
    → b.gathered ≡ a.gathered ++ moved → length b.gathered ≤ 3 → Consumes left left' moved → PeekerMoves left left' a b []
moves_part left left' a b moved unpeeked unpeeked' strips grown few consumed = record {
  moved = moved;
  consumed = consumed;
  equation = λ rest none.
      still_unpeeked a (moved ++ rest) unpeeked
      ∙ ap (stream_bytes a.strips) (sym (append_assoc a.gathered moved rest) ∙ ap (λ l. l ++ rest) (sym grown))
      ∙ ap (λ s. stream_bytes s (b.gathered ++ rest)) (sym strips)
      ∙ sym (still_unpeeked b rest unpeeked');
  gathered = sym (take_all 3 b.gathered few) ∙ ap (take 3) grown;
  same_strips = strips;
}

-- gathered bytes were given
pub next_given : (left left' : Option (List ℕ)) (a b : PeekerStanding) (given : List ℕ) → left' ≡ left → b ≡ record a { waiting = b.waiting } → a.waiting ≡ given ++ b.waiting
    → GivesNext left left' a b given 0
next_given left left' a b given same_left same split = record {
  moved = [];
  bytes = All-nil (λ x. x < 256);
  count = refl;
  consumed = subst (λ l. Consumes left l []) (sym same_left) (Consumes-nil left);
  seam = append-nil a.waiting ∙ split;
  behind_end = λ e. refl;
  same_strips = ap (λ s. s.strips) same;
  same_gathered = ap (λ s. s.gathered) same;
}

-- none waits, and the source gave bytes
pub next_read : (left left' : Option (List ℕ)) (a b : PeekerStanding) (moved : List ℕ) (n : ℕ) → a.waiting ≡ [] → b.waiting ≡ [] → b.strips ≡ a.strips → b.gathered ≡ a.gathered
    → a.ended ≡ false → AreBytes moved → length moved ≡ n → Consumes left left' moved → GivesNext left left' a b moved n
next_read left left' a b moved n none none' strips same going are count consumed = record {
  moved = moved;
  bytes = are;
  count = count;
  consumed = consumed;
  seam = ap (λ l. l ++ moved) none ∙ sym (append-nil moved) ∙ ap (λ l. moved ++ l) (sym none');
  behind_end = λ e. absurd (true≢false (sym e ∙ going));
  same_strips = strips;
  same_gathered = same;
}

-- bytes were gathered, and some were given then
pub moves_next : (left left' left'' : Option (List ℕ)) (a b c : PeekerStanding) (given : List ℕ) (n : ℕ) → PeekerMoves left left' a b [] → GivesNext left' left'' b c given n
    → b.peeked ≡ true → c.peeked ≡ true → (b.ended ≡ false → length b.gathered ≡ 3) → (b.ended ≡ true → c.ended ≡ true) → PeekerMoves left left'' a c given
moves_next left left' left'' a b c given n first next done done' whole ends = record {
  moved = first.moved ++ next.moved;
  consumed = Consumes-trans left left' left'' first.moved next.moved first.consumed next.consumed;
  equation = λ rest none.
      ap (still a) (append_assoc first.moved next.moved rest)
      ∙ first.equation (next.moved ++ rest) (λ e. ap (λ l. l ++ rest) (next.behind_end e) ∙ none (ends e))
      ∙ still_peeked b (next.moved ++ rest) done
      ∙ sym (append_assoc b.waiting next.moved rest)
      ∙ ap (λ l. l ++ rest) next.seam
      ∙ append_assoc given c.waiting rest
      ∙ ap (λ l. given ++ l) (sym (still_peeked c rest done'));
  gathered = next.same_gathered ∙ sym (gathered_stays b.ended b.gathered next.moved (omega (arith, ap length first.gathered, length-take 3 (a.gathered ++ first.moved))) whole next.behind_end)
      ∙ ap (λ l. take 3 (l ++ next.moved)) first.gathered ∙ take_twice (a.gathered ++ first.moved) next.moved
      ∙ ap (take 3) (append_assoc a.gathered first.moved next.moved);
  same_strips = next.same_strips ∙ first.same_strips;
}

pub at_end : (left : Option (List ℕ)) → ForSome left (λ l. l ≡ []) → IsAtEnd left
at_end None h = tt
at_end (Some l) h = h l refl

-- the same where the source tells what it has left
pub known_moved : (left left' : Option (List ℕ)) (a b : PeekerStanding) (given : List ℕ) → PeekerMoves left left' a b given → (b.ended ≡ true → IsAtEnd left')
    → Consumes (still_known a left) (still_known b left') given
known_moved None left' a b given moves end = tt
known_moved (Some l) None a b given moves end = absurd moves.consumed
known_moved (Some l) (Some l') a b given moves end = ap (still a) moves.consumed ∙ moves.equation l' end

pub known_kept : (left left' : Option (List ℕ)) (a b : PeekerStanding) → PeekerMoves left left' a b [] → (b.ended ≡ true → IsAtEnd left')
    → Keeps (still_known a left) (still_known b left')
known_kept None left' a b moves end = tt
known_kept (Some l) None a b moves end = absurd moves.consumed
known_kept (Some l) (Some l') a b moves end = sym (ap (still a) moves.consumed ∙ moves.equation l' end)

known_end : (left : Option (List ℕ)) (at : PeekerStanding) → HasGivenAll at → (at.ended ≡ true → IsAtEnd left) → IsAtEnd (still_known at left)
known_end None at all end = tt
known_end (Some l) at all end = still_peeked at l all.peeked ∙ ap (λ k. k ++ l) all.waiting ∙ end all.ended

pub known_read : {E : Type 0} (left left' : Option (List ℕ)) (a b : PeekerStanding) (result : Result ℕ E) (buf : List ℕ) → PeekerMoves left left' a b (given_by result buf)
    → (b.ended ≡ true → IsAtEnd left') → IfOk result (λ n. n ≡ 0 → 0 < length buf → HasGivenAll b) → ReadConsumes (still_known a left) (still_known b left') result buf
known_read left left' a b (Ok n) buf moves end all = (known_moved left left' a b _ moves end, λ none room. known_end left' b (all none room) end)
known_read left left' a b (Err e) buf moves end all = known_kept left left' a b moves end

-- what is gathered are bytes
pub gathered_bytes : (bytes : List ℕ) (n : ℕ) → AreBytes bytes → AreBytes (take n bytes)
gathered_bytes bytes n are = All-take (λ x. x < 256) n bytes are

pub bytes_put : (bytes part : List ℕ) (len count : ℕ) → AreBytes bytes → AreBytes part → AreBytes (put_mid len count bytes part)
bytes_put bytes part len count are are_part =
    let P : ℕ → Type 0 = λ x. x < 256 in
    All-append P (take len bytes) (part ++ drop count (drop len bytes)) (All-take P len bytes are)
    (All-append P part (drop count (drop len bytes)) are_part (All-drop P count (drop len bytes) (All-drop P len bytes are)))

-- how many gathered bytes wait
pub waiting_count : (bytes : List ℕ) (len place : ℕ) → length bytes ≡ 3 → len ≤ 3 → length (drop place (take len bytes)) ≡ len - place
waiting_count bytes len place whole few = length-drop place (take len bytes) ∙ ap (λ n. n - place) (length-take-le len bytes (omega arith))

-- none waits, and the source gave none
pub next_none : (left left' : Option (List ℕ)) (a b : PeekerStanding) → a.waiting ≡ [] → b.waiting ≡ [] → b.strips ≡ a.strips → b.gathered ≡ a.gathered
    → a.ended ≡ false → Consumes left left' [] → GivesNext left left' a b [] 0
next_none left left' a b none none' strips same going consumed =
    next_read left left' a b [] 0 none none' strips same going (All-nil (λ x. x < 256)) refl consumed

pub next_nothing : (left : Option (List ℕ)) (a : PeekerStanding) → GivesNext left left a a [] 0
next_nothing left a = record {
  moved = [];
  bytes = All-nil (λ x. x < 256);
  count = refl;
  consumed = Consumes-nil left;
  seam = append-nil a.waiting;
  behind_end = λ e. refl;
  same_strips = refl;
  same_gathered = refl;
}

-- what was given stands at the front of a longer buffer
pub next_front : (left left' : Option (List ℕ)) (a b : PeekerStanding) (n : ℕ) (part rest : List ℕ) → n ≤ length part → GivesNext left left' a b (take n part) n
    → GivesNext left left' a b (take n (part ++ rest)) n
next_front left left' a b n part rest within next = subst (λ l. GivesNext left left' a b l n) (sym (take-append-le n part rest within)) next

-- calls of the source, where bytes were gathered and then more were given
pub calls_read : (ended : Bool) (c0 c1 c2 g0 g1 g2 n t : ℕ) → c1 + g0 ≤ c0 + g1 + 1 → (ended ≡ false → c1 + g0 ≤ c0 + g1) → (ended ≡ true → c2 ≡ c1)
    → c2 ≤ c1 + t + 1 → t ≤ n → g2 ≡ g1 → c2 + g0 ≤ c0 + g2 + n + 1
calls_read true c0 c1 c2 g0 g1 g2 n t first whole same second few gathered = omega (arith, same refl)
calls_read false c0 c1 c2 g0 g1 g2 n t first whole same second few gathered = omega (arith, whole refl)

-- some bytes for the mark were gathered, or all
pub gathers_part : (left left' : Option (List ℕ)) (a b : PeekerStanding) (moved : List ℕ) → b.peeked ≡ false → b.strips ≡ a.strips → b.gathered ≡ a.gathered ++ moved
    → AreBytes moved → Consumes left left' moved → Gathers left left' a b
gathers_part left left' a b moved unpeeked strips grown are consumed = record {
  moved = moved;
  bytes = are;
  consumed = consumed;
  grown = grown;
  same_strips = strips;
  front = λ done. absurd (true≢false (sym done ∙ unpeeked));
}

pub gathers_all : (left left' : Option (List ℕ)) (a b : PeekerStanding) (moved : List ℕ) → b.strips ≡ a.strips → b.gathered ≡ a.gathered ++ moved
    → b.waiting ≡ drop (front_length b.strips b.gathered) b.gathered → front_length b.strips b.gathered ≤ length b.gathered
    → (b.ended ≡ false → length b.gathered ≡ 3) → AreBytes moved → Consumes left left' moved → Gathers left left' a b
gathers_all left left' a b moved strips grown waiting front whole are consumed = record {
  moved = moved;
  bytes = are;
  consumed = consumed;
  grown = grown;
  same_strips = strips;
  front = λ done. record {
    peeked = done;
    whole = whole;
    front = λ rest none. behind_front b.strips b.gathered rest (same_mark b.ended b.gathered rest whole none) front ∙ ap (λ l. l ++ rest) (sym waiting);
  };
}

-- bytes that were joined to others are bytes
pub joined_bytes : (all before moved : List ℕ) → all ≡ before ++ moved → AreBytes all → AreBytes moved
joined_bytes all before moved split are =
    let P : ℕ → Type 0 = λ x. x < 256 in
    subst AreBytes (ap (drop (length before)) split ∙ drop-append_seam before moved) (All-drop P (length before) all are)
