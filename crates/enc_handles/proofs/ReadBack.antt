-- The scalars of the UTF-16 of scalars are these.
use Rattle.std.proofs.Common.{◌≡◌, ℕ, ◌+◌, ◌-◌, ◌/◌, ◌%◌, ◌<◌, ◌≤◌, true, false, List, [], ◌∷◌, ◌++◌, ap, ◌∙◌, arith, inl, inr, get_or}
use Rattle.std.specs.Prelude.{◌&&◌}
use Rattle.std.specs.Char.{IsScalar}
use Rattle.std.specs.Char.Escape.{encode_utf16}
use Rattle.std.proofs.str.Utf16.{one_unit, two_units}
use Rattle.std.proofs.lemmas.Bool.{and_parts, cases_lt}
use Rattle.std.proofs.lemmas.Bool.Decides.{nat_tests}
use Rattle.enc_handles.specs.Lemmas.TextLaws.{scalars16-lone, scalars16-pair, scalars16-nil}
use Rattle.enc_handles.specs.Scalars.{lone_scalar, scalars16}
use Rattle.enc_handles.specs.Utf16.{is_lead, is_trail, pair_scalar, encode_utf16_all}
use Rattle.enc_handles.specs.Utf8.{AreScalars}

no_lead : (c : ℕ) → IsScalar c → is_lead c ≡ false
no_lead c scalar = grind (arith, nat_tests)

itself : (c : ℕ) → IsScalar c → lone_scalar c ≡ c
itself c scalar = grind (arith, nat_tests)

is_lead-of : (n : ℕ) → n < 0x10_0000 → is_lead (0xD800 + n / 0x400) ≡ true
is_lead-of n below = grind (arith, nat_tests)

is_trail-of : (n : ℕ) → is_trail (0xDC00 + n % 0x400) ≡ true
is_trail-of n = grind (arith, nat_tests)

pair_scalar-of : (c : ℕ) → 0x1_0000 ≤ c → pair_scalar (0xD800 + (c - 0x1_0000) / 0x400) (0xDC00 + (c - 0x1_0000) % 0x400) ≡ c
pair_scalar-of c above = omega arith

below_end : (c : ℕ) → IsScalar c → 0x1_0000 ≤ c → c - 0x1_0000 < 0x10_0000
below_end c scalar above = grind (arith, nat_tests)

first_back : (c : ℕ) (units : List ℕ) → IsScalar c → scalars16 (encode_utf16 c ++ units) ≡ c ∷ scalars16 units
first_back c units scalar =
    elim (cases_lt c 0x1_0000) [
      | inl low ↦
          ap (λ (l : List ℕ). scalars16 (l ++ units)) (one_unit c low)
          ∙ (scalars16-lone c units (ap (λ t. t && is_trail (get_or units 0 0)) (no_lead c scalar)) ∙ ap (λ k. k ∷ scalars16 units) (itself c scalar))
      | inr high ↦
          let n = c - 0x1_0000 in
          let lead = is_lead-of n (below_end c scalar high) in
          let pair : (is_lead (0xD800 + n / 0x400) && is_trail (0xDC00 + n % 0x400)) ≡ true =
          ap (λ t. t && is_trail (0xDC00 + n % 0x400)) lead ∙ is_trail-of n in
          ap (λ (l : List ℕ). scalars16 (l ++ units)) (two_units c high)
          ∙ (scalars16-pair (0xD800 + n / 0x400) (0xDC00 + n % 0x400) units pair ∙ ap (λ k. k ∷ scalars16 units) (pair_scalar-of c high))
    ]

pub read_back : (scalars : List ℕ) → AreScalars scalars → scalars16 (encode_utf16_all scalars) ≡ scalars
read_back [] each = scalars16-nil
read_back (c ∷ scalars) each =
    let parts = and_parts _ _ each in
    first_back c (encode_utf16_all scalars) parts.0 ∙ ap (λ (l : List ℕ). c ∷ l) (read_back scalars parts.1)
