-- The table of the letters' values.
use Rattle.std.proofs.Common.{◌≡◌, ◌≢◌, ℕ, ◌<◌, ◌≤◌, Bool, true, false, cond, nat_lt, nat_le, ◌&&◌, ◌||◌, get_or, map, inl, inr, ◌==◌, refl, ap, sym, ◌∙◌, arith}
use Rattle.std.specs.List.{range_with_len}
use Rattle.std.proofs.lemmas.List.FromFn.{get_or-map-range_with_len}
use Rattle.std.proofs.lemmas.Bool.{agree_below_at, and_parts, or_cases, eqb-true, leb-true, ltb-true, le-ltb, lt-ltb}
use Rattle.mail_body.specs.Base64.{value_or_none}
use Rattle.words.specs.Base64.{is_letter, letter_value}
use Rattle.mail_body.specs.declared.letters.alphabet.TheConstants.{VALUES}

all_values : VALUES ≡ map value_or_none (range_with_len 0 256)
unfolding value_or_none
all_values = refl

pub value_at_byte : (b : ℕ) → b < 256 → get_or VALUES b 0 ≡ value_or_none b
value_at_byte b below = ap (λ t. get_or t b 0) all_values ∙ get_or-map-range_with_len value_or_none 0 256 b b 0 below (omega arith)

-- a byte is a letter exactly where its value is below 64
letter_test : (b : ℕ) → b < 256 → nat_lt (value_or_none b) 64 ≡ is_letter b
unfolding value_or_none
letter_test b below = agree_below_at (λ d. nat_lt (value_or_none d) 64) (λ d. is_letter d) 256 b refl below

pub no_letter : (b n : ℕ) → b < 256 → n ≡ value_or_none b → 64 ≤ n → is_letter b ≡ false
no_letter b n below e large = sym (letter_test b below) ∙ ap (λ m. nat_lt m 64) (sym e) ∙ le-ltb n 64 large

pub a_letter : (b n : ℕ) → b < 256 → n ≡ value_or_none b → n ≢ 255 → (is_letter b ≡ true) × (n ≡ letter_value b)
unfolding value_or_none
a_letter b n below e other = by_test (is_letter b) refl
  where
    by_test : (t : Bool) → is_letter b ≡ t → (is_letter b ≡ true) × (n ≡ letter_value b)
    by_test true h = (h, e ∙ ap (λ t. cond t (letter_value b) 255) h)
    by_test false h = absurd (other (e ∙ ap (λ t. cond t (letter_value b) 255) h))

pub value_is : (b : ℕ) → is_letter b ≡ true → value_or_none b ≡ letter_value b
unfolding value_or_none
value_is b h = ap (λ t. cond t (letter_value b) 255) h

-- a letter is below 123
below-123 : (b : ℕ) → is_letter b ≡ true → b < 123
below-123 b h =
    let upper : Bool = nat_le 65 b && nat_le b 90 in
    let lower : Bool = nat_le 97 b && nat_le b 122 in
    let digit : Bool = nat_le 48 b && nat_le b 57 in
    elim (or_cases (((upper || lower) || digit) || b == 43) (b == 47) h) [
      | inr slash ↦ let e = eqb-true b 47 slash in omega arith
      | inl h3 ↦ elim (or_cases ((upper || lower) || digit) (b == 43) h3) [
        | inr plus ↦ let e = eqb-true b 43 plus in omega arith
        | inl h2 ↦ elim (or_cases (upper || lower) digit h2) [
          | inr d ↦ let e = leb-true b 57 (and_parts (nat_le 48 b) (nat_le b 57) d).1 in omega arith
          | inl h1 ↦ elim (or_cases upper lower h1) [
            | inl u ↦ let e = leb-true b 90 (and_parts (nat_le 65 b) (nat_le b 90) u).1 in omega arith
            | inr l ↦ let e = leb-true b 122 (and_parts (nat_le 97 b) (nat_le b 122) l).1 in omega arith
          ]
        ]
      ]
    ]

pub small_value : (b : ℕ) → is_letter b ≡ true → letter_value b < 64
small_value b h =
    let below : b < 256 = let small : b < 123 = below-123 b h in omega arith in
    ltb-true (letter_value b) 64 (ap (λ n. nat_lt n 64) (sym (value_is b h)) ∙ letter_test b below ∙ h)

-- the value of a letter
abbrev pub IsValue : ℕ → ℕ → Type 0
IsValue b n = (is_letter b ≡ true) × (n ≡ letter_value b)

pub IsValue-below : (b n : ℕ) → b < 256 → n ≡ value_or_none b → n < 64 → IsValue b n
IsValue-below b n below e small =
    let h : is_letter b ≡ true = sym (letter_test b below) ∙ ap (λ m. nat_lt m 64) (sym e) ∙ lt-ltb n 64 small in
    (h, e ∙ value_is b h)
