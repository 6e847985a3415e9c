-- Four letters in a row, and what is written for them.
use Rattle.std.proofs.Common.{◌≡◌, ℕ, ◌+◌, ◌*◌, ◌/◌, ◌%◌, ◌<◌, ◌≤◌, List, [], ◌∷◌, ◌++◌, length, get_or, take, drop, slice_set, ap, sym, ◌∙◌, arith, append_assoc, length-set}
use Rattle.std.proofs.lemmas.List.{drop_more, take_more_set}
use Rattle.std.proofs.lemmas.Nat.{le_or_l, le_or_r}
use Rattle.std.specs.Int.Bits.{bit_or}
use Rattle.mail_body.specs.Base64.{base64_body}
use Rattle.mail_body.specs.HeldLetters.{Goes}
use Rattle.mail_body.specs.declared.letters.held.HeldLetters.TheVariants.{NoLetter}
use Rattle.mail_body.proofs.LetterTable.{IsValue}
use Rattle.mail_body.proofs.Bodies.{body-four}

-- where the union of four numbers is below a bound, each is
pub record AreBelow (a b c d n : ℕ) : Type 0 where
  pub first : a < n
  pub second : b < n
  pub third : c < n
  pub fourth : d < n

pub AreBelow-or : (a b c d n : ℕ) → bit_or (bit_or (bit_or a b) c) d < n → AreBelow a b c d n
AreBelow-or a b c d n h =
    let p = le_or_l (bit_or (bit_or a b) c) d in
    let q = le_or_r (bit_or (bit_or a b) c) d in
    let r = le_or_l (bit_or a b) c in
    let s = le_or_r (bit_or a b) c in
    let t = le_or_l a b in
    let u = le_or_r a b in
    record { first = omega arith; second = omega arith; third = omega arith; fourth = omega arith }

drop_four : (xs : List ℕ) (i : ℕ) → i + 4 ≤ length xs
    → drop i xs ≡ get_or xs i 0 ∷ get_or xs (i + 1) 0 ∷ get_or xs (i + 2) 0 ∷ get_or xs (i + 3) 0 ∷ drop (i + 4) xs
drop_four xs i h =
    let two : i + 1 + 1 ≡ i + 2 = omega arith in
    let three : i + 2 + 1 ≡ i + 3 = omega arith in
    let four : i + 3 + 1 ≡ i + 4 = omega arith in
    drop_more xs i 0 (omega arith)
    ∙ ap (λ r. get_or xs i 0 ∷ r) (drop_more xs (i + 1) 0 (omega arith) ∙ ap (λ n. get_or xs (i + 1) 0 ∷ drop n xs) two)
    ∙ ap (λ r. get_or xs i 0 ∷ get_or xs (i + 1) 0 ∷ r) (drop_more xs (i + 2) 0 (omega arith) ∙ ap (λ n. get_or xs (i + 2) 0 ∷ drop n xs) three)
    ∙ ap (λ r. get_or xs i 0 ∷ get_or xs (i + 1) 0 ∷ get_or xs (i + 2) 0 ∷ r) (drop_more xs (i + 3) 0 (omega arith) ∙ ap (λ n. get_or xs (i + 3) 0 ∷ drop n xs) four)

-- three numbers stored in a row
take_three : (out : List ℕ) (i x y z : ℕ) → i + 3 ≤ length out
    → take (i + 3) (slice_set (slice_set (slice_set out i x) (i + 1) y) (i + 2) z) ≡ take i out ++ x ∷ y ∷ z ∷ []
take_three out i x y z h =
    let one = slice_set out i x in
    let two = slice_set one (i + 1) y in
    let long1 : length one ≡ length out = length-set out i x in
    let long2 : length two ≡ length out = length-set one (i + 1) y ∙ long1 in
    let at2 : i + 2 ≡ i + 1 + 1 = omega arith in
    let at3 : i + 3 ≡ i + 2 + 1 = omega arith in
    ap (λ n. take n (slice_set two (i + 2) z)) at3
    ∙ take_more_set two (i + 2) z (omega arith)
    ∙ ap (λ r. r ++ z ∷ []) (ap (λ n. take n two) at2 ∙ take_more_set one (i + 1) y (omega arith) ∙ ap (λ r. r ++ y ∷ []) (take_more_set out i x (omega arith)))
    ∙ append_assoc (take i out ++ x ∷ []) (y ∷ []) (z ∷ [])
    ∙ append_assoc (take i out) (x ∷ []) (y ∷ z ∷ [])

-- four letters give three octets
pub Goes-four : (piece out : List ℕ) (at filled a b c d : ℕ) → at + 4 ≤ length piece → filled + 3 ≤ length out
    → IsValue (get_or piece at 0) a → IsValue (get_or piece (at + 1) 0) b → IsValue (get_or piece (at + 2) 0) c → IsValue (get_or piece (at + 3) 0) d
    → Goes piece NoLetter at out filled NoLetter (at + 4)
    (slice_set (slice_set (slice_set out filled (a * 4 + b / 16)) (filled + 1) (b % 16 * 16 + c / 4)) (filled + 2) (c % 4 * 64 + d)) (filled + 3)
Goes-four piece out at filled a b c d in_piece in_out va vb vc vd rest =
    let x = drop (at + 4) piece ++ rest in
    let p = get_or piece at 0 in
    let q = get_or piece (at + 1) 0 in
    let r = get_or piece (at + 2) 0 in
    let s = get_or piece (at + 3) 0 in
    let body : base64_body (drop at piece ++ rest) ≡ (a * 4 + b / 16) ∷ (b % 16 * 16 + c / 4) ∷ (c % 4 * 64 + d) ∷ base64_body x =
    ap (λ l. base64_body (l ++ rest)) (drop_four piece at in_piece) ∙ body-four p q r s x va.0 vb.0 vc.0 vd.0
    ∙ (λ i. (sym va.1 i * 4 + sym vb.1 i / 16) ∷ (sym vb.1 i % 16 * 16 + sym vc.1 i / 4) ∷ (sym vc.1 i % 4 * 64 + sym vd.1 i) ∷ base64_body x) in
    ap (λ l. l ++ base64_body x) (take_three out filled (a * 4 + b / 16) (b % 16 * 16 + c / 4) (c % 4 * 64 + d) in_out)
    ∙ append_assoc (take filled out) ((a * 4 + b / 16) ∷ (b % 16 * 16 + c / 4) ∷ (c % 4 * 64 + d) ∷ []) (base64_body x)
    ∙ ap (λ l. take filled out ++ l) (sym body)
