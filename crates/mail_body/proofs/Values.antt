-- A body of the right form stands for what a B text does.
use Rattle.std.proofs.Common.{◌≡◌, ℕ, zero, suc, ◌+◌, ◌-◌, ◌*◌, ◌/◌, ◌%◌, ◌<◌, ◌≤◌, Bool, true, false, nat_le, ◌==◌, ◌&&◌, Some, None, List, [], ◌∷◌, ◌++◌, length, take, drop, replicate, reverse, map, slice_index, refl, sym, ap, ◌∙◌, arith}
use Rattle.std.specs.List.{flat_map, list_all, suffix_len}
use Rattle.std.proofs.lemmas.Bool.{and_parts, eqb-true, leb-true, cond-true, cond-false}
use Rattle.std.proofs.lemmas.List.{ext_get_or, get_or-drop, get_or-reverse, get_or-replicate, length-drop, length-replicate, take-append-drop}
use Rattle.std.proofs.lemmas.List.Sums.{prefix_len_passes, suffix_len-le-length}
use Rattle.mail_body.specs.Base64.{octets_of, body_letters, base64_body}
use Rattle.words.specs.Base64.{is_letter, letter_value, b_value, bits, is_base64, letters, octets, padding_len}
use Rattle.mail_body.proofs.BitGroups.{octets-four, octets-three, octets-two}
use Rattle.mail_body.proofs.Bodies.{letters-letter, letters-end, letters-nil}
use Rattle.mail_body.proofs.LetterTable.{small_value}

-- a text is what stands before its last `=`s, and these
padded : (s : List ℕ) (c : ℕ) → s ≡ take (length s - suffix_len (λ b. b == c) s) s ++ replicate (suffix_len (λ b. b == c) s) c
padded s c =
    let within : suffix_len (λ b. b == c) s ≤ length s = suffix_len-le-length (λ b. b == c) s in
    let end : drop (length s - suffix_len (λ b. b == c) s) s ≡ replicate (suffix_len (λ b. b == c) s) c =
    ext_get_or 0 _ _
    (omega (arith, length-drop (length s - suffix_len (λ b. b == c) s) s, length-replicate (suffix_len (λ b. b == c) s) c))
    (λ i h.
    let low : i < suffix_len (λ b. b == c) s = omega (arith, length-drop (length s - suffix_len (λ b. b == c) s) s) in
    let passes = prefix_len_passes (λ b. b == c) (reverse s) (suffix_len (λ b. b == c) s - 1 - i) 0 (omega arith) in
    let place : length s - suffix_len (λ b. b == c) s + i ≡ length s - 1 - (suffix_len (λ b. b == c) s - 1 - i) = omega arith in
    get_or-drop (length s - suffix_len (λ b. b == c) s) s i 0 ∙ ap (slice_index s) place
    ∙ sym (get_or-reverse s (suffix_len (λ b. b == c) s - 1 - i) 0 (omega arith))
    ∙ eqb-true _ c passes
    ∙ sym (get_or-replicate (suffix_len (λ b. b == c) s) i c 0 low)) in
    sym (take-append-drop (length s - suffix_len (λ b. b == c) s) s) ∙ ap (λ z. take (length s - suffix_len (λ b. b == c) s) s ++ z) end

-- what the form of a text says
form : (s : List ℕ) → is_base64 s ≡ true → (length s % 4 ≡ 0) × (padding_len s ≤ 2) × (list_all is_letter (letters s) ≡ true)
form s h =
    let outer = and_parts ((length s % 4 == 0) && nat_le (padding_len s) 2) (list_all is_letter (letters s)) h in
    let inner = and_parts (length s % 4 == 0) (nat_le (padding_len s) 2) outer.0 in
    (eqb-true (length s % 4) 0 inner.0, leb-true (padding_len s) 2 inner.1, outer.1)

-- six bits of each letter, in eights, are the octets of the letters' values
octets-values : (ls : List ℕ) → list_all is_letter ls ≡ true → octets (flat_map (λ b. bits 6 (letter_value b)) ls) ≡ octets_of (map letter_value ls)
unfolding octets octets_of bits
octets-values [] h = refl
octets-values (a ∷ []) h = refl
octets-values (a ∷ b ∷ []) h =
    let qa = and_parts (is_letter a) (list_all is_letter (b ∷ [])) h in
    let qb = and_parts (is_letter b) true qa.1 in
    octets-two (letter_value a) (letter_value b) (small_value a qa.0) (small_value b qb.0)
octets-values (a ∷ b ∷ c ∷ []) h =
    let qa = and_parts (is_letter a) (list_all is_letter (b ∷ c ∷ [])) h in
    let qb = and_parts (is_letter b) (list_all is_letter (c ∷ [])) qa.1 in
    let qc = and_parts (is_letter c) true qb.1 in
    octets-three (letter_value a) (letter_value b) (letter_value c) (small_value a qa.0) (small_value b qb.0) (small_value c qc.0)
octets-values (a ∷ b ∷ c ∷ d ∷ rest) h =
    let qa = and_parts (is_letter a) (list_all is_letter (b ∷ c ∷ d ∷ rest)) h in
    let qb = and_parts (is_letter b) (list_all is_letter (c ∷ d ∷ rest)) qa.1 in
    let qc = and_parts (is_letter c) (list_all is_letter (d ∷ rest)) qb.1 in
    let qd = and_parts (is_letter d) (list_all is_letter rest) qc.1 in
    octets-four (letter_value a) (letter_value b) (letter_value c) (letter_value d) (flat_map (λ x. bits 6 (letter_value x)) rest)
    (small_value a qa.0) (small_value b qb.0) (small_value c qc.0) (small_value d qd.0)
    ∙ ap (λ os. (letter_value a * 4 + letter_value b / 16) ∷ (letter_value b % 16 * 16 + letter_value c / 4) ∷ (letter_value c % 4 * 64 + letter_value d) ∷ os) (octets-values rest qd.1)

-- `=` at the end is none of the letters
letters-padding : (n : ℕ) → body_letters (replicate n 61) ≡ []
letters-padding zero = letters-nil
letters-padding (suc n) = letters-end (replicate n 61)

pub letters-padded : (ls : List ℕ) (n : ℕ) → list_all is_letter ls ≡ true → body_letters (ls ++ replicate n 61) ≡ ls
letters-padded [] n h = letters-padding n
letters-padded (b ∷ ls) n h =
    let q = and_parts (is_letter b) (list_all is_letter ls) h in
    letters-letter b (ls ++ replicate n 61) q.0 ∙ ap (λ xs. b ∷ xs) (letters-padded ls n q.1)

body-value : (s : List ℕ) → is_base64 s ≡ true → b_value s ≡ Some (base64_body s)
unfolding b_value base64_body
body-value s h =
    let f = form s h in
    let ls : body_letters s ≡ letters s = ap body_letters (padded s 61) ∙ letters-padded (letters s) (padding_len s) f.2 in
    cond-true (is_base64 s) (Some (octets (flat_map (λ b. bits 6 (letter_value b)) (letters s)))) None h
    ∙ ap (λ v. Some v) (octets-values (letters s) f.2 ∙ ap (λ xs. octets_of (map letter_value xs)) (sym ls))

no_value : (s : List ℕ) → is_base64 s ≡ false → b_value s ≡ None
unfolding b_value
no_value s h = cond-false (is_base64 s) (Some (octets (flat_map (λ b. bits 6 (letter_value b)) (letters s)))) None h

-- where a body has a value as a B text, it stands for that
pub body-b_value : (s v : List ℕ) → b_value s ≡ Some v → base64_body s ≡ v
body-b_value s v e = by_form (is_base64 s) refl
  where
    by_form : (t : Bool) → is_base64 s ≡ t → base64_body s ≡ v
    by_form true h = let f = body-value s h in cc
    by_form false h = let f = no_value s h in cc
