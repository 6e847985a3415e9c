-- The table of well-formed UTF-8 and the encoding of scalars say the same.
use Rattle.std.proofs.Common.{◌≡◌, ℕ, ◌+◌, ◌-◌, ◌*◌, ◌/◌, ◌%◌, ◌<◌, ◌≤◌, Bool, true, false, cond, List, [], ◌∷◌, ◌++◌, length, drop, get_or, refl, sym, ap, ◌∙◌, arith, inl, inr, ◌⊎◌, ⊎_elim}
use Rattle.std.proofs.lemmas.Bool.{and_parts, ltb-true, leb-true, cases_lt}
use Rattle.std.proofs.lemmas.Bool.Decides.{nat_tests}
use Rattle.std.proofs.lemmas.List.{drop_more}
use Rattle.std.proofs.Math.Nat.{eq-or-lt_of_le}
use Rattle.std.specs.Char.{IsScalar}
use lib.Utf8.{encode, scalar_cases}
use Rattle.enc_handles.specs.Utf8.{byte_in, begins_two, begins_three, begins_four, sequence_len, sequence_scalar}
use Rattle.enc_handles.proofs.TextLemmas.{encode_one, encode_two, encode_three, encode_four}

-- what a test of one byte says
pub record In (bytes : List ℕ) (k low high : ℕ) : Type 0 where
  pub within : k < length bytes
  pub at_least : low ≤ get_or bytes k 0
  pub at_most : get_or bytes k 0 ≤ high

pub byte_in-true : (bytes : List ℕ) (k low high : ℕ) → byte_in bytes k low high ≡ true → In bytes k low high
byte_in-true bytes k low high e =
    let first = and_parts _ _ e in
    let second = and_parts _ _ first.1 in
    record {
      within = ltb-true k (length bytes) first.0;
      at_least = leb-true low (get_or bytes k 0) second.0;
      at_most = leb-true (get_or bytes k 0) high second.1;
    }

-- the front of a list, byte by byte
front_one : (bytes : List ℕ) → 0 < length bytes → bytes ≡ get_or bytes 0 0 ∷ drop 1 bytes
front_one bytes h = drop_more bytes 0 0 h

front_two : (bytes : List ℕ) → 1 < length bytes → bytes ≡ get_or bytes 0 0 ∷ get_or bytes 1 0 ∷ drop 2 bytes
front_two bytes h = front_one bytes (omega arith) ∙ ap (λ (l : List ℕ). get_or bytes 0 0 ∷ l) (drop_more bytes 1 0 h)

front_three : (bytes : List ℕ) → 2 < length bytes → bytes ≡ get_or bytes 0 0 ∷ get_or bytes 1 0 ∷ get_or bytes 2 0 ∷ drop 3 bytes
front_three bytes h = front_two bytes (omega arith) ∙ ap (λ (l : List ℕ). get_or bytes 0 0 ∷ get_or bytes 1 0 ∷ l) (drop_more bytes 2 0 h)

front_four : (bytes : List ℕ) → 3 < length bytes → bytes ≡ get_or bytes 0 0 ∷ get_or bytes 1 0 ∷ get_or bytes 2 0 ∷ get_or bytes 3 0 ∷ drop 4 bytes
front_four bytes h = front_three bytes (omega arith) ∙ ap (λ (l : List ℕ). get_or bytes 0 0 ∷ get_or bytes 1 0 ∷ get_or bytes 2 0 ∷ l) (drop_more bytes 3 0 h)

-- the sequence at the front is the encoding of its scalar
pub record Decodes (bytes : List ℕ) : Type 0 where
  pub scalar : IsScalar (sequence_scalar bytes)
  pub length_is : length (encode (sequence_scalar bytes)) ≡ sequence_len bytes
  pub front : bytes ≡ encode (sequence_scalar bytes) ++ drop (sequence_len bytes) bytes

scalar_of : (c : ℕ) → (c < 0xD800) ⊎ ((0xE000 ≤ c) × (c < 0x11_0000)) → IsScalar c
scalar_of c (inl h) = grind (arith, nat_tests)
scalar_of c (inr h) = grind (arith, nat_tests)

-- from the value of the scalar and its encoding
decodes : (bytes : List ℕ) (n c : ℕ) (xs : List ℕ) → sequence_len bytes ≡ n → sequence_scalar bytes ≡ c → IsScalar c → encode c ≡ xs → length xs ≡ n
    → bytes ≡ xs ++ drop n bytes → Decodes bytes
decodes bytes n c xs len value scalar text count front = record {
  scalar = rw value scalar;
  length_is = rw (value, len, text) count;
  front = rw (value, len, text) front;
}

one_decodes : (bytes : List ℕ) → sequence_len bytes ≡ 1 → In bytes 0 0x00 0x7F → Decodes bytes
unfolding sequence_scalar
one_decodes bytes len a =
    let value : sequence_scalar bytes ≡ get_or bytes 0 0 = rw len refl in
    decodes bytes 1 (get_or bytes 0 0) (get_or bytes 0 0 ∷ []) len value (scalar_of (get_or bytes 0 0) (inl (omega (arith, a)))) (encode_one (get_or bytes 0 0) (omega (arith, a))) refl (front_one bytes a.within)

two_decodes : (bytes : List ℕ) → sequence_len bytes ≡ 2 → In bytes 0 0xC2 0xDF → In bytes 1 0x80 0xBF → Decodes bytes
unfolding sequence_scalar
two_decodes bytes len a b =
    let x = get_or bytes 0 0 in
    let y = get_or bytes 1 0 in
    let c = (x - 0xC0) * 0x40 + (y - 0x80) in
    let value : sequence_scalar bytes ≡ c = rw len refl in
    let first : 0xC0 + c / 0x40 ≡ x = omega arith in
    let second : 0x80 + c % 0x40 ≡ y = omega arith in
    let text : encode c ≡ x ∷ y ∷ [] = encode_two c (omega arith) (omega arith) ∙ cc in
    decodes bytes 2 c (x ∷ y ∷ []) len value (scalar_of c (inl (omega arith))) text refl (front_two bytes b.within)

-- a second byte that the table has after this first one, of three and of four
pub record Second3 (x y : ℕ) : Type 0 where
  pub first_low : 0xE0 ≤ x
  pub first_high : x ≤ 0xEF
  pub low : 0x80 ≤ y
  pub high : y ≤ 0xBF
  pub no_short : x ≡ 0xE0 → 0xA0 ≤ y
  pub no_surrogate : x ≡ 0xED → y ≤ 0x9F

pub record Second4 (x y : ℕ) : Type 0 where
  pub first_low : 0xF0 ≤ x
  pub first_high : x ≤ 0xF4
  pub low : 0x80 ≤ y
  pub high : y ≤ 0xBF
  pub no_short : x ≡ 0xF0 → 0x90 ≤ y
  pub no_more : x ≡ 0xF4 → y ≤ 0x8F

three_scalar : (x y z : ℕ) → Second3 x y → 0x80 ≤ z → z ≤ 0xBF
    → let c = (x - 0xE0) * 0x1000 + (y - 0x80) * 0x40 + (z - 0x80) in (0x800 ≤ c) × ((c < 0xD800) ⊎ ((0xE000 ≤ c) × (c < 0x11_0000)))
three_scalar x y z s low high =
    let c = (x - 0xE0) * 0x1000 + (y - 0x80) * 0x40 + (z - 0x80) in (
      ⊎_elim (λ e. let y_low = s.no_short (sym e) in omega (arith, s)) (λ e. omega (arith, s)) (eq-or-lt_of_le s.first_low),
      ⊎_elim (λ below. inl (omega (arith, s)))
          (λ above. ⊎_elim (λ e. let y_high = s.no_surrogate (sym e) in inl (omega (arith, s))) (λ e. inr (omega (arith, s), omega (arith, s))) (eq-or-lt_of_le above))
          (cases_lt x 0xED),
    )

three_decodes : (bytes : List ℕ) → sequence_len bytes ≡ 3 → 2 < length bytes → Second3 (get_or bytes 0 0) (get_or bytes 1 0) → In bytes 2 0x80 0xBF → Decodes bytes
unfolding sequence_scalar
three_decodes bytes len within s third =
    let x = get_or bytes 0 0 in
    let y = get_or bytes 1 0 in
    let z = get_or bytes 2 0 in
    let c = (x - 0xE0) * 0x1000 + (y - 0x80) * 0x40 + (z - 0x80) in
    let range = three_scalar x y z s third.at_least third.at_most in
    let value : sequence_scalar bytes ≡ c = rw len refl in
    let below : c < 0x1_0000 = omega (arith, s, third) in
    let first : 0xE0 + c / 0x1000 ≡ x = omega (arith, s, third) in
    let second : 0x80 + c / 0x40 % 0x40 ≡ y = omega (arith, s, third) in
    let last : 0x80 + c % 0x40 ≡ z = omega (arith, s, third) in
    let text : encode c ≡ x ∷ y ∷ z ∷ [] = encode_three c range.0 below ∙ cc in
    decodes bytes 3 c (x ∷ y ∷ z ∷ []) len value (scalar_of c range.1) text refl (front_three bytes within)

four_decodes : (bytes : List ℕ) → sequence_len bytes ≡ 4 → 3 < length bytes → Second4 (get_or bytes 0 0) (get_or bytes 1 0) → In bytes 2 0x80 0xBF → In bytes 3 0x80 0xBF → Decodes bytes
unfolding sequence_scalar
four_decodes bytes len within s third fourth =
    let x = get_or bytes 0 0 in
    let y = get_or bytes 1 0 in
    let z = get_or bytes 2 0 in
    let w = get_or bytes 3 0 in
    let c = (x - 0xF0) * 0x4_0000 + (y - 0x80) * 0x1000 + (z - 0x80) * 0x40 + (w - 0x80) in
    let value : sequence_scalar bytes ≡ c = rw len refl in
    let low : 0x1_0000 ≤ c = ⊎_elim (λ e. let y_low = s.no_short (sym e) in omega (arith, s, third, fourth)) (λ e. omega (arith, s, third, fourth)) (eq-or-lt_of_le s.first_low) in
    let high : c < 0x11_0000 = ⊎_elim (λ e. omega (arith, s, third, fourth)) (λ above. let y_high = s.no_more (omega (arith, s)) in omega (arith, s, third, fourth)) (cases_lt x 0xF4) in
    let first : 0xF0 + c / 0x4_0000 ≡ x = omega (arith, s, third, fourth) in
    let second : 0x80 + c / 0x1000 % 0x40 ≡ y = omega (arith, s, third, fourth) in
    let after : 0x80 + c / 0x40 % 0x40 ≡ z = omega (arith, s, third, fourth) in
    let last : 0x80 + c % 0x40 ≡ w = omega (arith, s, third, fourth) in
    let text : encode c ≡ x ∷ y ∷ z ∷ w ∷ [] = encode_four c low ∙ cc in
    decodes bytes 4 c (x ∷ y ∷ z ∷ w ∷ []) len value (scalar_of c (inr (omega arith, high))) text refl (front_four bytes within)

-- one row of three, of four
row_three : (bytes : List ℕ) (low high second_low second_high : ℕ) → begins_three bytes low high second_low second_high ≡ true → sequence_len bytes ≡ 3
    → ((x y : ℕ) → low ≤ x → x ≤ high → second_low ≤ y → y ≤ second_high → Second3 x y) → Decodes bytes
row_three bytes low high second_low second_high e len row =
    let first = and_parts _ _ e in
    let rest = and_parts _ _ first.1 in
    let a = byte_in-true bytes 0 low high first.0 in
    let b = byte_in-true bytes 1 second_low second_high rest.0 in
    let c = byte_in-true bytes 2 0x80 0xBF rest.1 in
    three_decodes bytes len c.within (row _ _ a.at_least a.at_most b.at_least b.at_most) c

row_four : (bytes : List ℕ) (low high second_low second_high : ℕ) → begins_four bytes low high second_low second_high ≡ true → sequence_len bytes ≡ 4
    → ((x y : ℕ) → low ≤ x → x ≤ high → second_low ≤ y → y ≤ second_high → Second4 x y) → Decodes bytes
row_four bytes low high second_low second_high e len row =
    let first = and_parts _ _ e in
    let rest = and_parts _ _ first.1 in
    let tails = and_parts _ _ rest.1 in
    let a = byte_in-true bytes 0 low high first.0 in
    let b = byte_in-true bytes 1 second_low second_high rest.0 in
    let c = byte_in-true bytes 2 0x80 0xBF tails.0 in
    let d = byte_in-true bytes 3 0x80 0xBF tails.1 in
    four_decodes bytes len d.within (row _ _ a.at_least a.at_most b.at_least b.at_most) c d

-- the rows' bounds of the second byte
row_e0 : (x y : ℕ) → 0xE0 ≤ x → x ≤ 0xE0 → 0xA0 ≤ y → y ≤ 0xBF → Second3 x y
row_e0 x y a b c d = record { first_low = a; first_high = omega arith; low = omega arith; high = d; no_short = λ _. c; no_surrogate = λ e. absurd (omega arith) }

row_e1 : (x y : ℕ) → 0xE1 ≤ x → x ≤ 0xEC → 0x80 ≤ y → y ≤ 0xBF → Second3 x y
row_e1 x y a b c d = record { first_low = omega arith; first_high = omega arith; low = c; high = d; no_short = λ e. absurd (omega arith); no_surrogate = λ e. absurd (omega arith) }

row_ed : (x y : ℕ) → 0xED ≤ x → x ≤ 0xED → 0x80 ≤ y → y ≤ 0x9F → Second3 x y
row_ed x y a b c d = record { first_low = omega arith; first_high = omega arith; low = c; high = omega arith; no_short = λ e. absurd (omega arith); no_surrogate = λ _. d }

row_ee : (x y : ℕ) → 0xEE ≤ x → x ≤ 0xEF → 0x80 ≤ y → y ≤ 0xBF → Second3 x y
row_ee x y a b c d = record { first_low = omega arith; first_high = b; low = c; high = d; no_short = λ e. absurd (omega arith); no_surrogate = λ e. absurd (omega arith) }

row_f0 : (x y : ℕ) → 0xF0 ≤ x → x ≤ 0xF0 → 0x90 ≤ y → y ≤ 0xBF → Second4 x y
row_f0 x y a b c d = record { first_low = a; first_high = omega arith; low = omega arith; high = d; no_short = λ _. c; no_more = λ e. absurd (omega arith) }

row_f1 : (x y : ℕ) → 0xF1 ≤ x → x ≤ 0xF3 → 0x80 ≤ y → y ≤ 0xBF → Second4 x y
row_f1 x y a b c d = record { first_low = omega arith; first_high = omega arith; low = c; high = d; no_short = λ e. absurd (omega arith); no_more = λ e. absurd (omega arith) }

row_f4 : (x y : ℕ) → 0xF4 ≤ x → x ≤ 0xF4 → 0x80 ≤ y → y ≤ 0x8F → Second4 x y
row_f4 x y a b c d = record { first_low = omega arith; first_high = omega arith; low = c; high = omega arith; no_short = λ e. absurd (omega arith); no_more = λ _. d }

-- row by row down the table
down : (bytes : List ℕ) (t₁ t₂ t₃ t₄ t₅ t₆ t₇ t₈ t₉ : Bool)
    → byte_in bytes 0 0x00 0x7F ≡ t₁ → begins_two bytes 0xC2 0xDF ≡ t₂
    → begins_three bytes 0xE0 0xE0 0xA0 0xBF ≡ t₃ → begins_three bytes 0xE1 0xEC 0x80 0xBF ≡ t₄
    → begins_three bytes 0xED 0xED 0x80 0x9F ≡ t₅ → begins_three bytes 0xEE 0xEF 0x80 0xBF ≡ t₆
    → begins_four bytes 0xF0 0xF0 0x90 0xBF ≡ t₇ → begins_four bytes 0xF1 0xF3 0x80 0xBF ≡ t₈ → begins_four bytes 0xF4 0xF4 0x80 0x8F ≡ t₉
    → sequence_len bytes ≡ cond t₁ 1 (cond t₂ 2 (cond t₃ 3 (cond t₄ 3 (cond t₅ 3 (cond t₆ 3 (cond t₇ 4 (cond t₈ 4 (cond t₉ 4 0))))))))
    → 0 < sequence_len bytes → Decodes bytes
down bytes true t₂ t₃ t₄ t₅ t₆ t₇ t₈ t₉ e₁ e₂ e₃ e₄ e₅ e₆ e₇ e₈ e₉ len some = one_decodes bytes len (byte_in-true _ _ _ _ e₁)
down bytes false true t₃ t₄ t₅ t₆ t₇ t₈ t₉ e₁ e₂ e₃ e₄ e₅ e₆ e₇ e₈ e₉ len some =
    let both = and_parts _ _ e₂ in two_decodes bytes len (byte_in-true _ _ _ _ both.0) (byte_in-true _ _ _ _ both.1)
down bytes false false true t₄ t₅ t₆ t₇ t₈ t₉ e₁ e₂ e₃ e₄ e₅ e₆ e₇ e₈ e₉ len some = row_three bytes _ _ _ _ e₃ len row_e0
down bytes false false false true t₅ t₆ t₇ t₈ t₉ e₁ e₂ e₃ e₄ e₅ e₆ e₇ e₈ e₉ len some = row_three bytes _ _ _ _ e₄ len row_e1
down bytes false false false false true t₆ t₇ t₈ t₉ e₁ e₂ e₃ e₄ e₅ e₆ e₇ e₈ e₉ len some = row_three bytes _ _ _ _ e₅ len row_ed
down bytes false false false false false true t₇ t₈ t₉ e₁ e₂ e₃ e₄ e₅ e₆ e₇ e₈ e₉ len some = row_three bytes _ _ _ _ e₆ len row_ee
down bytes false false false false false false true t₈ t₉ e₁ e₂ e₃ e₄ e₅ e₆ e₇ e₈ e₉ len some = row_four bytes _ _ _ _ e₇ len row_f0
down bytes false false false false false false false true t₉ e₁ e₂ e₃ e₄ e₅ e₆ e₇ e₈ e₉ len some = row_four bytes _ _ _ _ e₈ len row_f1
down bytes false false false false false false false false true e₁ e₂ e₃ e₄ e₅ e₆ e₇ e₈ e₉ len some = row_four bytes _ _ _ _ e₉ len row_f4
down bytes false false false false false false false false false e₁ e₂ e₃ e₄ e₅ e₆ e₇ e₈ e₉ len some = absurd (omega arith)

-- a sequence by the table is the encoding of its scalar
pub sequence-Decodes : (bytes : List ℕ) → 0 < sequence_len bytes → Decodes bytes
unfolding sequence_len
sequence-Decodes bytes some = down bytes _ _ _ _ _ _ _ _ _ refl refl refl refl refl refl refl refl refl refl some

-- the encoding of a scalar is a sequence of the table
two_len : (a b : ℕ) (t : List ℕ) → 0xC2 ≤ a → a ≤ 0xDF → 0x80 ≤ b → b ≤ 0xBF → 0 < sequence_len (a ∷ b ∷ t)
unfolding sequence_len
two_len a b t h₁ h₂ h₃ h₄ = grind (arith, nat_tests)

three_len : (a b c : ℕ) (t : List ℕ) → Second3 a b → 0x80 ≤ c → c ≤ 0xBF → 0 < sequence_len (a ∷ b ∷ c ∷ t)
unfolding sequence_len
three_len a b c t s h₁ h₂ = grind (arith, nat_tests, s.first_low, s.first_high, s.low, s.high, s.no_short, s.no_surrogate)

four_len : (a b c d : ℕ) (t : List ℕ) → Second4 a b → 0x80 ≤ c → c ≤ 0xBF → 0x80 ≤ d → d ≤ 0xBF → 0 < sequence_len (a ∷ b ∷ c ∷ d ∷ t)
unfolding sequence_len
four_len a b c d t s h₁ h₂ h₃ h₄ = grind (arith, nat_tests, s.first_low, s.first_high, s.low, s.high, s.no_short, s.no_more)

one_len : (a : ℕ) (t : List ℕ) → a < 0x80 → 0 < sequence_len (a ∷ t)
unfolding sequence_len
one_len a t h = grind (arith, nat_tests)

second3 : (d : ℕ) → 0x800 ≤ d → d < 0x1_0000 → (d < 0xD800) ⊎ ((0xE000 ≤ d) × (d < 0x11_0000)) → Second3 (0xE0 + d / 0x1000) (0x80 + d / 0x40 % 0x40)
second3 d low high (inl below) = record { first_low = omega arith; first_high = omega arith; low = omega arith; high = omega arith; no_short = λ e. omega arith; no_surrogate = λ e. omega arith }
second3 d low high (inr above) = record { first_low = omega arith; first_high = omega arith; low = omega arith; high = omega arith; no_short = λ e. omega arith; no_surrogate = λ e. absurd (omega arith) }

second4 : (d : ℕ) → 0x1_0000 ≤ d → (d < 0xD800) ⊎ ((0xE000 ≤ d) × (d < 0x11_0000)) → Second4 (0xF0 + d / 0x4_0000) (0x80 + d / 0x1000 % 0x40)
second4 d low (inl below) = absurd (omega arith)
second4 d low (inr above) = record { first_low = omega arith; first_high = omega arith; low = omega arith; high = omega arith; no_short = λ e. omega arith; no_more = λ e. omega arith }

pub encode-sequence : (d : ℕ) (t : List ℕ) → IsScalar d → 0 < sequence_len (encode d ++ t)
encode-sequence d t scalar =
    ⊎_elim (λ small. rw (encode_one d small) (one_len d t small))
    (λ h₁. ⊎_elim (λ two. rw (encode_two d h₁ two) (two_len _ _ t (omega arith) (omega arith) (omega arith) (omega arith)))
    (λ h₂. ⊎_elim (λ three. rw (encode_three d h₂ three) (three_len _ _ _ t (second3 d h₂ three (scalar_cases d scalar)) (omega arith) (omega arith)))
    (λ h₃. rw (encode_four d h₃) (four_len _ _ _ _ t (second4 d h₃ (scalar_cases d scalar)) (omega arith) (omega arith) (omega arith) (omega arith)))
    (cases_lt d 0x1_0000)) (cases_lt d 0x800)) (cases_lt d 0x80)
