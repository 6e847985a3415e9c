-- What stands in a list after a part of it was written behind a place.
use Rattle.std.proofs.Common.{◌≡◌, ℕ, ◌+◌, ◌-◌, ◌≤◌, List, ◌++◌, length, take, drop, refl, sym, ap, ◌∙◌, arith, take-take, take-add, length-take, length-drop, length-append}
use Rattle.std.proofs.lemmas.List.{take_at, drop_at}
use Rattle.std.proofs.lemmas.Slice.{take-put_mid, drop-put_mid}
use borrow.Rule.Slice.PartMut.{put_mid}
use Rattle.enc_handles.specs.UnitSlice.{Puts}

-- the front of a part that was written behind a place
front-put_mid : (xs ys : List ℕ) (at k n : ℕ) → at ≤ length xs → n ≤ length ys → take (at + n) (put_mid at k xs ys) ≡ take at xs ++ take n ys
front-put_mid xs ys at k n within few =
    let whole = take-put_mid at k xs ys (at + length ys) refl within in
    let count = length-take at xs ∙ omega arith in
    let both = take at xs ++ ys in
    sym (take-take (at + n) (at + length ys) (put_mid at k xs ys) (omega arith)) ∙ (ap (take (at + n)) whole
    ∙ (take-add at n both ∙ (ap (λ (l : List ℕ). l ++ take n (drop at both)) (take_at (take at xs) ys at count) ∙ ap (λ (l : List ℕ). take at xs ++ take n l) (drop_at (take at xs) ys at count))))

length-put_mid : (xs ys : List ℕ) (at : ℕ) → at ≤ length xs → length ys ≡ length xs - at → length (put_mid at (length xs - at) xs ys) ≡ length xs
length-put_mid xs ys at within same =
    let k = length xs - at in
    let all = put_mid at k xs ys in
    let n = at + length ys in
    let front = ap length (take-put_mid at k xs ys n refl within) in
    let behind = ap length (drop-put_mid at k xs ys (at + k) (omega arith) within same) in
    omega (arith, length-take n all, length-append (take at xs) ys, length-take at xs, length-drop (at + k) all, length-drop (at + k) xs)

pub puts_behind : (old ys units : List ℕ) (at : ℕ) → at ≤ length old → length ys ≡ length old - at → length units ≤ length ys → take (length units) ys ≡ units
    → Puts old (put_mid at (length old - at) old ys) at units
puts_behind old ys units at within same few e = record {
  front = front-put_mid old ys at (length old - at) (length units) within few ∙ ap (λ l. take at old ++ l) e;
  same_length = length-put_mid old ys at within same;
}
