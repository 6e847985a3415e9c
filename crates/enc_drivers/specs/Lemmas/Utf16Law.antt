-- The laws of UTF-16.
use Rattle.std.proofs.Common.{◌≡◌, ℕ, ◌<◌, ◌≤◌, Bool, true, false, cond, leb-true, List, [], ◌∷◌}
use Rattle.std.proofs.Common.{length, get_or, take, refl, ap, arith}
use Rattle.std.specs.Prelude.{nat_le, ◌&&◌}
use Rattle.std.specs.Char.{IsScalar}
use Rattle.std.proofs.lemmas.Bool.{and_parts}
use Rattle.std.proofs.lemmas.Bool.Decides.{nat_tests}
use Rattle.std.proofs.lemmas.List.Elements.{All-get_or}
use Rattle.enc_handles.specs.Utf16.{code_unit, is_lead, is_trail, pair_scalar}
use Rattle.enc_drivers.specs.declared.unit.Mode.{Mode}
use Rattle.enc_drivers.specs.Units.{scalar_at, malformed_at, IsCode, IsUnitOf, AreBytes}
use Rattle.enc_drivers.specs.Codes.Utf16.{single_unit, utf16_unit}
use Rattle.enc_drivers.specs.Lemmas.Scalars.{scalar_high, encode_four}

malformed_unit : (mode : Mode) (rest : List ℕ) (n : ℕ) → 1 ≤ n → n ≤ 4 → n ≤ length rest → IsUnitOf rest (malformed_at mode n)
malformed_unit mode rest n some four within = record {
  some = some;
  four = four;
  within = within;
  scalars = tt;
  short_text = omega arith;
}

-- two bytes or more have at most four bytes of UTF-8
scalar_unit : (mode : Mode) (rest : List ℕ) (c n : ℕ) → IsScalar c → 2 ≤ n → n ≤ 4 → n ≤ length rest → IsUnitOf rest (scalar_at mode c n)
scalar_unit mode rest c n s some four within =
    let four_bytes = encode_four c in
    record {
      some = omega arith;
      four = four;
      within = within;
      scalars = s;
      short_text = omega (arith, four_bytes);
    }

unit_below : (big : Bool) (a b : ℕ) → a < 256 → b < 256 → code_unit big a b < 0x10000
unit_below true a b h k = omega arith
unit_below false a b h k = omega arith

-- a code unit that is neither a lead nor a trail is a scalar
unit_scalar : (u : ℕ) → u < 0x10000 → is_lead u ≡ false → is_trail u ≡ false → IsScalar u
unit_scalar u h lead trail = grind (arith, nat_tests)

pair_scalar_is : (u v : ℕ) → is_lead u ≡ true → is_trail v ≡ true → IsScalar (pair_scalar u v)
pair_scalar_is u v lead trail =
    let l = and_parts (nat_le 0xD800 u) (nat_le u 0xDBFF) lead in
    let t = and_parts (nat_le 0xDC00 v) (nat_le v 0xDFFF) trail in
    scalar_high (pair_scalar u v) (omega arith)
    (let u_high : u ≤ 0xDBFF = leb-true u 0xDBFF l.1 in
    let v_high : v ≤ 0xDFFF = leb-true v 0xDFFF t.1 in
    omega arith)

single : (mode : Mode) (rest : List ℕ) (u : ℕ) → u < 0x10000 → is_lead u ≡ false → 2 ≤ length rest → IsUnitOf rest (single_unit mode u)
single mode rest u h lead two = by_test (is_trail u) refl
  where
    by_test : (t : Bool) → is_trail u ≡ t → IsUnitOf rest (single_unit mode u)
    by_test true e = rw e (malformed_unit mode rest 2 (omega arith) (omega arith) two)
    by_test false e = rw e (scalar_unit mode rest u 2 (unit_scalar u h lead e) (omega arith) (omega arith) two)

cut_or_single : (mode : Mode) (rest : List ℕ) (u n : ℕ) → u < 0x10000 → 2 ≤ n → n ≤ 3 → n ≤ length rest → IsUnitOf rest (cond (is_lead u) (malformed_at mode n) (single_unit mode u))
cut_or_single mode rest u n h two three within = by_test (is_lead u) refl
  where
    by_test : (t : Bool) → is_lead u ≡ t → IsUnitOf rest (cond (is_lead u) (malformed_at mode n) (single_unit mode u))
    by_test true e = rw e (malformed_unit mode rest n (omega arith) (omega arith) within)
    by_test false e = rw e (single mode rest u h e (omega arith))

paired_or_single : (mode : Mode) (rest : List ℕ) (u v : ℕ) → u < 0x10000 → 4 ≤ length rest →
    IsUnitOf rest (cond (is_lead u && is_trail v) (scalar_at mode (pair_scalar u v) 4) (cond (is_lead u) (malformed_at mode 2) (single_unit mode u)))
paired_or_single mode rest u v h four = by_tests (is_lead u) refl (is_trail v) refl
  where
    by_tests : (s : Bool) → is_lead u ≡ s → (t : Bool) → is_trail v ≡ t →
        IsUnitOf rest (cond (is_lead u && is_trail v) (scalar_at mode (pair_scalar u v) 4) (cond (is_lead u) (malformed_at mode 2) (single_unit mode u)))
    by_tests true e true f = rw (e, f) (scalar_unit mode rest (pair_scalar u v) 4 (pair_scalar_is u v e f) (omega arith) (omega arith) four)
    by_tests true e false f = rw (e, f) (malformed_unit mode rest 2 (omega arith) (omega arith) (omega arith))
    by_tests false e t f = rw e (single mode rest u h e (omega arith))

-- the first four bytes decide
same_four : (big : Bool) (mode : Mode) (x y : List ℕ) → 4 ≤ length x → 4 ≤ length y → take 4 x ≡ take 4 y → utf16_unit big mode x ≡ utf16_unit big mode y
unfolding utf16_unit
same_four big mode (a ∷ b ∷ c ∷ d ∷ xs) (s ∷ t ∷ u ∷ v ∷ ys) h k e =
    let ea : a ≡ s = ap (λ l. get_or l 0 0) e in
    let eb : b ≡ t = ap (λ l. get_or l 1 0) e in
    let ec : c ≡ u = ap (λ l. get_or l 2 0) e in
    let ed : d ≡ v = ap (λ l. get_or l 3 0) e in
    rw (ea, eb, ec, ed) refl
same_four big mode (a ∷ b ∷ c ∷ []) y h k e = absurd (omega arith)
same_four big mode (a ∷ b ∷ []) y h k e = absurd (omega arith)
same_four big mode (a ∷ []) y h k e = absurd (omega arith)
same_four big mode [] y h k e = absurd (omega arith)
same_four big mode (a ∷ b ∷ c ∷ d ∷ xs) (s ∷ t ∷ u ∷ []) h k e = absurd (omega arith)
same_four big mode (a ∷ b ∷ c ∷ d ∷ xs) (s ∷ t ∷ []) h k e = absurd (omega arith)
same_four big mode (a ∷ b ∷ c ∷ d ∷ xs) (s ∷ []) h k e = absurd (omega arith)
same_four big mode (a ∷ b ∷ c ∷ d ∷ xs) [] h k e = absurd (omega arith)

pub utf16_law : (big : Bool) → IsCode (utf16_unit big)
unfolding utf16_unit
utf16_law big = record { each = each; first_four = first_four }
  where
    each : (mode : Mode) (rest : List ℕ) → AreBytes rest → 0 < length rest → IsUnitOf rest (utf16_unit big mode rest)
    each mode [] are h = absurd (omega arith)
    each mode (a ∷ []) are h = malformed_unit mode (a ∷ []) 1 (omega arith) (omega arith) (omega arith)
    each mode (a ∷ b ∷ []) are h =
        cut_or_single mode (a ∷ b ∷ []) (code_unit big a b) 2
        (unit_below big a b (All-get_or (λ c. c < 256) (a ∷ b ∷ []) 0 0 (omega arith) are) (All-get_or (λ c. c < 256) (a ∷ b ∷ []) 1 0 (omega arith) are))
        (omega arith) (omega arith) (omega arith)
    each mode (a ∷ b ∷ c ∷ []) are h =
        cut_or_single mode (a ∷ b ∷ c ∷ []) (code_unit big a b) 3
        (unit_below big a b (All-get_or (λ c. c < 256) (a ∷ b ∷ c ∷ []) 0 0 (omega arith) are) (All-get_or (λ c. c < 256) (a ∷ b ∷ c ∷ []) 1 0 (omega arith) are))
        (omega arith) (omega arith) (omega arith)
    each mode (a ∷ b ∷ c ∷ d ∷ rest) are h =
        paired_or_single mode (a ∷ b ∷ c ∷ d ∷ rest) (code_unit big a b) (code_unit big c d)
        (unit_below big a b (All-get_or (λ c. c < 256) (a ∷ b ∷ c ∷ d ∷ rest) 0 0 (omega arith) are) (All-get_or (λ c. c < 256) (a ∷ b ∷ c ∷ d ∷ rest) 1 0 (omega arith) are))
        (omega arith)

    first_four : (mode : Mode) (x y : List ℕ) → AreBytes x → AreBytes y → 4 ≤ length x → 4 ≤ length y → take 4 x ≡ take 4 y → utf16_unit big mode x ≡ utf16_unit big mode y
    first_four mode x y are ary h k e = same_four big mode x y h k e
