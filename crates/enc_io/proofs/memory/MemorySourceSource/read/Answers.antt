use Rattle.std.proofs.Common.{◌≡◌, ◌-◌, arith, min, length, take, drop, sym, ap, ◌∙◌}
use Rattle.enc_io.proofs.Moves.{front_moved, none_left, slice_to_end}
use Rattle.enc_io.proofs.memory.MemorySourceSource.read.Goals as goal

pub returns-clause-moved : goal.returns-clause-moved
returns-clause-moved c =
    let bytes = c.self.inside.bytes.items in
    let place = c.self.inside.place in
    let left = c.args.self.now.left in
    let buf = c.args.buf.now in
    let n = c.min-n.result in
    let is_left : left ≡ drop place bytes = ap (λ m. m.left) (sym c.self.view_is) in
    let is_slice : drop place bytes ≡ take (length c.deref-2.result.now - place) (drop place c.deref-2.result.now) =
    sym (slice_to_end place bytes) ∙ ap (λ l. take (length l - place) (drop place l)) (sym c.deref-2.ensures.value) in
    let count : n ≡ min (min c.self.inside.step (length buf)) (length left) =
    c.min-n.ensures ∙ ap (λ m. min m (length (take (length c.deref-2.result.now - place) (drop place c.deref-2.result.now)))) c.min.ensures ∙ ap (λ l. min (min c.self.inside.step (length buf)) (length l)) (sym (is_left ∙ is_slice)) in
    let is_copied : c.copy_from_slice.new.self ≡ take n left = c.copy_from_slice.ensures.after ∙ ap (take n) (sym (is_left ∙ is_slice)) in
    (front_moved bytes left c.copy_from_slice.new.self (drop n buf) place n is_left is_copied (omega arith), λ none room. none_left bytes left place n (length buf) c.self.inside.step is_left count c.self.invariant.1 none (omega arith))
