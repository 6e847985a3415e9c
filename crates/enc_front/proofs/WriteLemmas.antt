-- Writes to a slice, over plain values.
use Rattle.std.proofs.Common.{◌≡◌, ℕ, ◌+◌, ◌-◌, ◌≤◌, List, ◌++◌, length, take, drop, ap, ◌∙◌}
use Rattle.std.proofs.Common.{drop_at, le_refl}
use Rattle.std.proofs.Math.Seq.{take-add}
use Rattle.std.proofs.lemmas.List.{length-take-le, take-append-le}
use Rattle.std.proofs.lemmas.Slice.{take-put_mid_below}
use borrow.Rule.Slice.PartMut.{put_mid, post_of}

-- the text of two writes, the second behind the first
pub written_more : {A : Type 0} (from n : ℕ) (dst part : List A) → from ≤ length dst
    → n ≤ length part
    → take (from + n) (put_mid from (length dst - from) dst part) ≡ take from dst ++ take n part
written_more {A} from n dst part within fits =
    let room = length dst - from in
    let new = put_mid from room dst part in
    let after = post_of from room dst in
    let front : take from new
    ≡ take from dst = take-put_mid_below from room dst part from (le_refl from) within in
    let mid : take n (drop from new) ≡ take n part =
    ap (λ (l : List A). take n l)
    (drop_at (take from dst) (part ++ after) from (length-take-le from dst within))
    ∙ take-append-le n part after fits in
    take-add from n new ∙ ap (λ (l : List A). l ++ take n (drop from new)) front
    ∙ ap (λ (l : List A). take from dst ++ l) mid
