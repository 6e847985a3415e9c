-- Several reads are one, several writes are one.
use Rattle.std.proofs.Common.{◌≡◌, ℕ, ◌+◌, ◌-◌, List, ◌++◌, length, drop, sym, ap, append_assoc, add_assoc, length-append, arith}
use Rattle.std.proofs.lemmas.List.{drop-drop}
use Rattle.enc_handles.specs.Reading.{Reading, left, after_reading}
use Rattle.enc_handles.specs.Writing.{Writing, after_writing}

pub after_reading-add : (r : Reading) (n m : ℕ) → after_reading (after_reading r n) m ≡ after_reading r (n + m)
after_reading-add r n m = ap (λ (p : ℕ). record r { place = p }) (add_assoc r.place n m)

pub left-after_reading : (r : Reading) (n : ℕ) → left (after_reading r n) ≡ drop n (left r)
left-after_reading r n = sym (drop-drop n r.place r.items)

pub after_writing-append : (w : Writing) (xs ys : List ℕ) → after_writing (after_writing w xs) ys ≡ after_writing w (xs ++ ys)
after_writing-append w xs ys =
    let text : (w.text ++ xs) ++ ys ≡ w.text ++ (xs ++ ys) = append_assoc w.text xs ys in
    let free : (w.free - length xs) - length ys ≡ w.free - length (xs ++ ys) = omega (arith, length-append xs ys) in
    cc
