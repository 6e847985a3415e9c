-- Base64 of octets: its letters, its length and its value.
use Rattle.std.proofs.Common.{◌≡◌, ℕ, zero, suc, ◌+◌, ◌-◌, ◌*◌, ◌/◌, ◌%◌, ◌<◌, ◌≤◌, Bool, true, false, List, [], ◌∷◌, ◌++◌, Some, None, length, take, get_or, replicate, slice_index, refl, ap, ◌∙◌, arith, length-append}
use Rattle.std.specs.Prelude.{not, ◌&&◌, ◌==◌, nat_le}
use Rattle.std.specs.List.{flat_map, list_all}
use Rattle.std.proofs.lemmas.Bool.{agree_below, agree_below_at, and_parts, and_from, eqb-true, cond-true}
use Rattle.std.proofs.lemmas.Bool.Decides.{nat_tests}
use Rattle.std.proofs.lemmas.List.{get_or-replicate, get_or-append_right, get_or_append_left, length-replicate, take_at}
use Rattle.std.proofs.lemmas.List.Sums.{suffix_len_is}
use Rattle.base64.specs.Rfc4648.{encode_symbols, padding_len as octet_padding_len}
use Rattle.base64.proofs.RoundTrip.{length-encode_symbols}
use Rattle.words.specs.Base64.{b_value, bits, is_base64, is_letter, letter_value, letters, octets, padding_len}
use Rattle.words.specs.SpareBits.{alphabet}
use Rattle.words.specs.Word.{is_text_byte}
use Rattle.words.proofs.BitGroups.{octets-four, octets-three, octets-two}
use Rattle.word_writer.specs.Plain.{is_printable}
use Rattle.word_writer.specs.Written.{base64}
use Rattle.word_writer.proofs.Utf8Text.{AreSmall}

abbrev is_no_pad : ℕ → Bool
is_no_pad b = not (b == 61)

-- the letters of the alphabet, by their values
abbrev all_good : ℕ → Bool
all_good k = (is_letter (slice_index alphabet k) && (letter_value (slice_index alphabet k) == k))
    && ((is_text_byte (slice_index alphabet k) && is_printable (slice_index alphabet k)) && is_no_pad (slice_index alphabet k))

good-all : agree_below all_good (λ k. true) 64 ≡ true
good-all = refl

good : (k : ℕ) → k < 64 → all_good k ≡ true
good k h = agree_below_at all_good (λ x. true) 64 k good-all h

letter-part : (k : ℕ) → k < 64 → (is_letter (slice_index alphabet k) && (letter_value (slice_index alphabet k) == k)) ≡ true
letter-part k h = (and_parts (is_letter (slice_index alphabet k) && (letter_value (slice_index alphabet k) == k)) _ (good k h)).0

other-part : (k : ℕ) → k < 64 → ((is_text_byte (slice_index alphabet k) && is_printable (slice_index alphabet k)) && is_no_pad (slice_index alphabet k)) ≡ true
other-part k h = (and_parts (is_letter (slice_index alphabet k) && (letter_value (slice_index alphabet k) == k)) _ (good k h)).1

letter-is : (k : ℕ) → k < 64 → is_letter (slice_index alphabet k) ≡ true
letter-is k h = (and_parts (is_letter (slice_index alphabet k)) _ (letter-part k h)).0

value-is : (k : ℕ) → k < 64 → letter_value (slice_index alphabet k) ≡ k
value-is k h = eqb-true (letter_value (slice_index alphabet k)) k (and_parts (is_letter (slice_index alphabet k)) _ (letter-part k h)).1

text-part : (k : ℕ) → k < 64 → (is_text_byte (slice_index alphabet k) && is_printable (slice_index alphabet k)) ≡ true
text-part k h = (and_parts (is_text_byte (slice_index alphabet k) && is_printable (slice_index alphabet k)) _ (other-part k h)).0

text-is : (k : ℕ) → k < 64 → is_text_byte (slice_index alphabet k) ≡ true
text-is k h = (and_parts (is_text_byte (slice_index alphabet k)) _ (text-part k h)).0

printable-is : (k : ℕ) → k < 64 → is_printable (slice_index alphabet k) ≡ true
printable-is k h = (and_parts (is_text_byte (slice_index alphabet k)) _ (text-part k h)).1

no-pad-is : (k : ℕ) → k < 64 → is_no_pad (slice_index alphabet k) ≡ true
no-pad-is k h = (and_parts (is_text_byte (slice_index alphabet k) && is_printable (slice_index alphabet k)) _ (other-part k h)).1

pub all-append : (p : ℕ → Bool) (xs ys : List ℕ) → list_all p xs ≡ true → list_all p ys ≡ true → list_all p (xs ++ ys) ≡ true
all-append p [] ys h k = k
all-append p (x ∷ xs) ys h k = let q = and_parts (p x) (list_all p xs) h in and_from (p x) (list_all p (xs ++ ys)) q.0 (all-append p xs ys q.1 k)

all-replicate : (p : ℕ → Bool) (n b : ℕ) → p b ≡ true → list_all p (replicate n b) ≡ true
all-replicate p zero b h = refl
all-replicate p (suc n) b h = and_from (p b) (list_all p (replicate n b)) h (all-replicate p n b h)

pub all-at : (p : ℕ → Bool) (xs : List ℕ) (i : ℕ) → list_all p xs ≡ true → i < length xs → p (get_or xs i 0) ≡ true
all-at p [] i h le = absurd (omega arith)
all-at p (x ∷ xs) zero h le = (and_parts (p x) (list_all p xs) h).0
all-at p (x ∷ xs) (suc i) h le = all-at p xs i (and_parts (p x) (list_all p xs) h).1 (omega arith)

-- what holds of each letter of the alphabet holds of each symbol
module _ (p : ℕ → Bool) (each : (k : ℕ) → k < 64 → p (slice_index alphabet k) ≡ true) where
  symbols-all : (g : List ℕ) → AreSmall g → list_all p (encode_symbols alphabet g) ≡ true
  unfolding encode_symbols
  symbols-all [] h = refl
  symbols-all (a ∷ []) h =
      let small = h.0 in
      and_from _ _ (each (a / 4) (omega arith)) (and_from _ _ (each (a % 4 * 16) (omega arith)) refl)
  symbols-all (a ∷ b ∷ []) h =
      let small = h.0 in
      let next = h.1.0 in
      and_from _ _ (each (a / 4) (omega arith)) (and_from _ _ (each (a % 4 * 16 + b / 16) (omega arith)) (and_from _ _ (each (b % 16 * 4) (omega arith)) refl))
  symbols-all (a ∷ b ∷ c ∷ rest) h =
      let small = h.0 in
      let next = h.1.0 in
      let last = h.1.1.0 in
      and_from _ _ (each (a / 4) (omega arith)) (and_from _ _ (each (a % 4 * 16 + b / 16) (omega arith))
      (and_from _ _ (each (b % 16 * 4 + c / 64) (omega arith)) (and_from _ _ (each (c % 64) (omega arith)) (symbols-all rest h.1.1.1))))

  base64-all : (g : List ℕ) → AreSmall g → p 61 ≡ true → list_all p (base64 g) ≡ true
  base64-all g h pad = all-append p (encode_symbols alphabet g) (replicate (octet_padding_len (length g)) 61) (symbols-all g h) (all-replicate p (octet_padding_len (length g)) 61 pad)

pub base64-text : (g : List ℕ) → AreSmall g → list_all is_text_byte (base64 g) ≡ true
base64-text g h = base64-all is_text_byte text-is g h refl

pub base64-printable : (g : List ℕ) → AreSmall g → list_all is_printable (base64 g) ≡ true
base64-printable g h = base64-all is_printable printable-is g h refl

pub base64-length : (g : List ℕ) → length (base64 g) ≡ (4 * length g + 2) / 3 + (3 - length g % 3) % 3
base64-length g =
    length-append (encode_symbols alphabet g) (replicate (octet_padding_len (length g)) 61)
    ∙ (λ i. length-encode_symbols alphabet g i + length-replicate {A = ℕ} (octet_padding_len (length g)) 61 i)

-- the octets of the symbols
symbols-value : (g : List ℕ) → AreSmall g → octets (flat_map (λ b. bits 6 (letter_value b)) (encode_symbols alphabet g)) ≡ g
unfolding encode_symbols octets
symbols-value [] h = refl
symbols-value (a ∷ []) h =
    let small = h.0 in
    let u = letter_value (slice_index alphabet (a / 4)) in
    let v = letter_value (slice_index alphabet (a % 4 * 16)) in
    let eu : letter_value (slice_index alphabet (a / 4)) ≡ a / 4 = value-is (a / 4) (omega arith) in
    let ev : letter_value (slice_index alphabet (a % 4 * 16)) ≡ a % 4 * 16 = value-is (a % 4 * 16) (omega arith) in
    let first : letter_value (slice_index alphabet (a / 4)) * 4 + letter_value (slice_index alphabet (a % 4 * 16)) / 16 ≡ a = rw (eu, ev) (omega arith) in
    octets-two u v (rw eu (omega arith)) (rw ev (omega arith)) ∙ (λ i. first i ∷ [])
symbols-value (a ∷ b ∷ []) h =
    let small = h.0 in
    let next = h.1.0 in
    let u = letter_value (slice_index alphabet (a / 4)) in
    let v = letter_value (slice_index alphabet (a % 4 * 16 + b / 16)) in
    let w = letter_value (slice_index alphabet (b % 16 * 4)) in
    let eu : letter_value (slice_index alphabet (a / 4)) ≡ a / 4 = value-is (a / 4) (omega arith) in
    let ev : letter_value (slice_index alphabet (a % 4 * 16 + b / 16)) ≡ a % 4 * 16 + b / 16 = value-is (a % 4 * 16 + b / 16) (omega arith) in
    let ew : letter_value (slice_index alphabet (b % 16 * 4)) ≡ b % 16 * 4 = value-is (b % 16 * 4) (omega arith) in
    let first : letter_value (slice_index alphabet (a / 4)) * 4 + letter_value (slice_index alphabet (a % 4 * 16 + b / 16)) / 16 ≡ a = rw (eu, ev) (omega arith) in
    let second : letter_value (slice_index alphabet (a % 4 * 16 + b / 16)) % 16 * 16 + letter_value (slice_index alphabet (b % 16 * 4)) / 4 ≡ b = rw (ev, ew) (omega arith) in
    octets-three u v w (rw eu (omega arith)) (rw ev (omega arith)) (rw ew (omega arith)) ∙ (λ i. first i ∷ second i ∷ [])
symbols-value (a ∷ b ∷ c ∷ rest) h =
    let small = h.0 in
    let next = h.1.0 in
    let last = h.1.1.0 in
    let u = letter_value (slice_index alphabet (a / 4)) in
    let v = letter_value (slice_index alphabet (a % 4 * 16 + b / 16)) in
    let w = letter_value (slice_index alphabet (b % 16 * 4 + c / 64)) in
    let x = letter_value (slice_index alphabet (c % 64)) in
    let eu : letter_value (slice_index alphabet (a / 4)) ≡ a / 4 = value-is (a / 4) (omega arith) in
    let ev : letter_value (slice_index alphabet (a % 4 * 16 + b / 16)) ≡ a % 4 * 16 + b / 16 = value-is (a % 4 * 16 + b / 16) (omega arith) in
    let ew : letter_value (slice_index alphabet (b % 16 * 4 + c / 64)) ≡ b % 16 * 4 + c / 64 = value-is (b % 16 * 4 + c / 64) (omega arith) in
    let ex : letter_value (slice_index alphabet (c % 64)) ≡ c % 64 = value-is (c % 64) (omega arith) in
    let first : letter_value (slice_index alphabet (a / 4)) * 4 + letter_value (slice_index alphabet (a % 4 * 16 + b / 16)) / 16 ≡ a = rw (eu, ev) (omega arith) in
    let second : letter_value (slice_index alphabet (a % 4 * 16 + b / 16)) % 16 * 16 + letter_value (slice_index alphabet (b % 16 * 4 + c / 64)) / 4 ≡ b = rw (ev, ew) (omega arith) in
    let third : letter_value (slice_index alphabet (b % 16 * 4 + c / 64)) % 4 * 64 + letter_value (slice_index alphabet (c % 64)) ≡ c = rw (ew, ex) (omega arith) in
    octets-four u v w x (flat_map (λ y. bits 6 (letter_value y)) (encode_symbols alphabet rest)) (rw eu (omega arith)) (rw ev (omega arith)) (rw ew (omega arith)) (rw ex (omega arith))
    ∙ (λ i. first i ∷ second i ∷ third i ∷ symbols-value rest h.1.1.1 i)

-- the padding that is found is that which was written
found-padding : (xs : List ℕ) (n : ℕ) → list_all is_no_pad xs ≡ true → padding_len (xs ++ replicate n 61) ≡ n
found-padding xs n h =
    let whole = length-append xs (replicate n 61) in
    let count = length-replicate {A = ℕ} n 61 in
    suffix_len_is (λ b. b == 61) (xs ++ replicate n 61) (length xs) 0 (omega arith)
    (λ k low high. ap (λ b. b == 61) (get_or-append_right xs (replicate n 61) (length xs) k 0 refl low ∙ get_or-replicate n (k - length xs) 61 0 (omega arith)))
    (λ some. ap (λ b. b == 61) (get_or_append_left xs (replicate n 61) 0 (length xs - 1) (omega arith)) ∙ is-false (get_or xs (length xs - 1) 0 == 61) (all-at is_no_pad xs (length xs - 1) h (omega arith)))
    ∙ omega arith
  where
    is-false : (t : Bool) → not t ≡ true → t ≡ false
    is-false true e = absurd cc
    is-false false e = refl

-- the value of Base64 is what was encoded
module _ (g : List ℕ) (small : AreSmall g) where
  abbrev padding : ℕ
  padding = octet_padding_len (length g)

  found : padding_len (base64 g) ≡ padding
  found = found-padding (encode_symbols alphabet g) padding (symbols-all is_no_pad no-pad-is g small)

  cut : letters (base64 g) ≡ encode_symbols alphabet g
  cut =
      let whole = length-append (encode_symbols alphabet g) (replicate padding 61) in
      let count = length-replicate {A = ℕ} padding 61 in
      let len : length (base64 g) - padding_len (base64 g) ≡ length (encode_symbols alphabet g) = omega (arith, found) in
      ap (λ n. take n (base64 g)) len ∙ take_at (encode_symbols alphabet g) (replicate padding 61) (length (encode_symbols alphabet g)) refl

  pub base64-form : is_base64 (base64 g) ≡ true
  base64-form =
      let fours : length (base64 g) % 4 ≡ 0 = rw (base64-length g) (omega arith) in
      let few : padding_len (base64 g) ≤ 2 = rw found (omega arith) in
      and_from _ _ (and_from _ _ (rw fours refl) (few-test (padding_len (base64 g)) few)) (ap (list_all is_letter) cut ∙ symbols-all is_letter letter-is g small)
    where
      few-test : (n : ℕ) → n ≤ 2 → nat_le n 2 ≡ true
      few-test n h = grind (arith, nat_tests)

  pub base64-value : b_value (base64 g) ≡ Some g
  unfolding b_value
  base64-value =
      cond-true (is_base64 (base64 g)) _ None base64-form
      ∙ ap (λ l. Some (octets (flat_map (λ b. bits 6 (letter_value b)) l))) cut
      ∙ ap (λ l. Some l) (symbols-value g small)
