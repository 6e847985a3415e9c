-- What a read moves, and what a filled buffer holds.
use Rattle.std.proofs.Common.{◌≡◌, ℕ, ◌+◌, ◌-◌, ◌<◌, ◌≤◌, min, List, [], ◌++◌, length, take, drop, sym, ap, ◌∙◌, arith, take-append-drop, length-drop, drop_at, length-take-le, le_refl}
use Rattle.std.proofs.lemmas.List.{drop-drop, take-append-le, nil_from_length}
use Rattle.std.proofs.lemmas.Slice.{take-put_mid_below}
use Rattle.std.proofs.Math.Seq.{take-append_seam, take-add, take-length}
use borrow.Rule.Slice.PartMut.{put_mid, post_of}

-- a slice to the end of a list
pub slice_to_end : (place : ℕ) (bytes : List ℕ) → take (length bytes - place) (drop place bytes) ≡ drop place bytes
slice_to_end place bytes = ap (λ n. take n (drop place bytes)) (sym (length-drop place bytes)) ∙ take-length (drop place bytes)

-- the bytes that stood before what is left, after n of them were copied
pub front_moved : (bytes left copied rest : List ℕ) (place n : ℕ) → left ≡ drop place bytes → copied ≡ take n left → n ≤ length left
    → left ≡ take n (copied ++ rest) ++ drop (place + n) bytes
front_moved bytes left copied rest place n is_left is_copied within =
    let len : length copied ≡ n = ap length is_copied ∙ length-take-le n left within in
    let front : take n (copied ++ rest) ≡ copied = ap (λ k. take k (copied ++ rest)) (sym len) ∙ take-append_seam copied rest in
    let back : drop (place + n) bytes ≡ drop n left = sym (drop-drop n place bytes) ∙ ap (drop n) (sym is_left) in
    sym (ap (λ l. l ++ drop (place + n) bytes) (front ∙ is_copied) ∙ ap (λ l. take n left ++ l) back ∙ take-append-drop n left)

-- nothing was moved into a buffer with room only where nothing was left
pub none_left : (bytes left : List ℕ) (place n room step : ℕ) → left ≡ drop place bytes → n ≡ min (min step room) (length left) → 1 ≤ step → n ≡ 0 → 0 < room
    → drop (place + n) bytes ≡ []
none_left bytes left place n room step is_left count positive none has_room =
    let empty : length left ≡ 0 = omega arith in
    let back : drop (place + n) bytes ≡ drop n left = sym (drop-drop n place bytes) ∙ ap (drop n) (sym is_left) in
    nil_from_length _ (omega (arith, ap length back, length-drop n left))

-- what stands from `from` on after n more bytes came there
pub filled_more : (from n : ℕ) (buf part : List ℕ) → from ≤ length buf → n ≤ length part
    → take from buf ++ take n part ≡ take (from + n) (put_mid from (length buf - from) buf part)
filled_more from n buf part within fits =
    let room = length buf - from in
    let new = put_mid from room buf part in
    let after = post_of from room buf in
    let front : take from new ≡ take from buf = take-put_mid_below from room buf part from (le_refl from) within in
    let mid : take n (drop from new) ≡ take n part =
    ap (take n) (drop_at (take from buf) (part ++ after) from (length-take-le from buf within)) ∙ take-append-le n part after fits in
    sym (take-add from n new ∙ ap (λ l. l ++ take n (drop from new)) front ∙ ap (λ l. take from buf ++ l) mid)
