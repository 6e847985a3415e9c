-- The laws of gb18030.
use Rattle.std.proofs.Common.{◌≡◌, ℕ, ◌+◌, ◌-◌, ◌*◌, ◌<◌, ◌≤◌, Bool, true, false, cond, lt-ltb}
use Rattle.std.proofs.Common.{List, [], ◌∷◌, length, get_or, take, refl, ap, arith}
use Rattle.std.specs.Prelude.{nat_lt, ◌==◌, None}
use Rattle.std.specs.Option.{ForSome}
use Rattle.std.specs.Char.{IsScalar}
use Rattle.enc_drivers.specs.declared.unit.Mode.{Mode}
use Rattle.enc_drivers.specs.Units.{scalar_at, IsCode, IsUnitOf, AreBytes}
use Rattle.enc_drivers.specs.Lookup.{Places, FindsScalars}
use Rattle.enc_drivers.specs.Codes.Gb18030.{is_gb18030_lead, is_gb18030_digit, is_gb18030_trail}
use Rattle.enc_drivers.specs.Codes.Gb18030.{gb18030_scalar, ranges_place, gb18030_fourth}
use Rattle.enc_drivers.specs.Codes.Gb18030.{gb18030_third, gb18030_sequence, gb18030_unit}
use Rattle.enc_drivers.specs.Lemmas.Scalars.{scalar_low}
use Rattle.enc_drivers.specs.Lemmas.SequenceLaw.{malformed_is, one_is, ascii_is, sequence_is}
use Rattle.enc_drivers.specs.Lemmas.SequenceLaw.{whole_is}

-- a byte below 80 is a unit of itself
pub gb18030_ascii : (index ranges : Places) (mode : Mode) (b : ℕ) (rest : List ℕ) → b < 0x80 → gb18030_unit index ranges mode (b ∷ rest) ≡ scalar_at mode b 1
unfolding gb18030_unit
gb18030_ascii index ranges mode b rest h = rw (lt-ltb b 0x80 h) refl

gb18030_scalar_is : (index : Places) (a b : ℕ) → FindsScalars index → ForSome (gb18030_scalar index a b) (λ c. IsScalar c)
unfolding gb18030_scalar
gb18030_scalar_is index a b finds = by_test (is_gb18030_trail b) refl
  where
    by_test : (t : Bool) → is_gb18030_trail b ≡ t → ForSome (cond (is_gb18030_trail b) (index ((a - 0x81) * 190 + (b - cond (nat_lt b 0x7F) 0x40 0x41))) None) (λ c. IsScalar c)
    by_test true e = rw e (finds ((a - 0x81) * 190 + (b - cond (nat_lt b 0x7F) 0x40 0x41)))
    by_test false e = rw e (λ c f. absurd (cc f))

pub gb18030_law : (index ranges : Places) → FindsScalars index → FindsScalars ranges → IsCode (gb18030_unit index ranges)
unfolding gb18030_unit gb18030_sequence gb18030_third gb18030_fourth
gb18030_law index ranges finds finds_ranges = record { each = each; first_four = first_four }
  where
    fourth : (mode : Mode) (a b c : ℕ) (rest : List ℕ) → IsUnitOf (a ∷ b ∷ c ∷ rest) (gb18030_fourth ranges mode a b c rest)
    fourth mode a b c [] = malformed_is mode (a ∷ b ∷ c ∷ []) 3 (omega arith) (omega arith) (omega arith)
    fourth mode a b c (d ∷ rest) = by_test (is_gb18030_digit d) refl
      where
        by_test : (t : Bool) → is_gb18030_digit d ≡ t → IsUnitOf (a ∷ b ∷ c ∷ d ∷ rest) (gb18030_fourth ranges mode a b c (d ∷ rest))
        by_test true e = rw e (whole_is mode (a ∷ b ∷ c ∷ d ∷ rest) (ranges (ranges_place a b c d)) 4 (finds_ranges (ranges_place a b c d)) (omega arith) (omega arith) (omega arith))
        by_test false e = rw e (malformed_is mode (a ∷ b ∷ c ∷ d ∷ rest) 1 (omega arith) (omega arith) (omega arith))

    third : (mode : Mode) (a b : ℕ) (rest : List ℕ) → IsUnitOf (a ∷ b ∷ rest) (gb18030_third ranges mode a b rest)
    third mode a b [] = malformed_is mode (a ∷ b ∷ []) 2 (omega arith) (omega arith) (omega arith)
    third mode a b (c ∷ rest) = by_test (is_gb18030_lead c) refl
      where
        by_test : (t : Bool) → is_gb18030_lead c ≡ t → IsUnitOf (a ∷ b ∷ c ∷ rest) (gb18030_third ranges mode a b (c ∷ rest))
        by_test true e = rw e (fourth mode a b c rest)
        by_test false e = rw e (malformed_is mode (a ∷ b ∷ c ∷ rest) 1 (omega arith) (omega arith) (omega arith))

    sequence : (mode : Mode) (a : ℕ) (rest : List ℕ) → IsUnitOf (a ∷ rest) (gb18030_sequence index ranges mode a rest)
    sequence mode a [] = malformed_is mode (a ∷ []) 1 (omega arith) (omega arith) (omega arith)
    sequence mode a (b ∷ rest) = by_test (is_gb18030_digit b) refl
      where
        by_test : (t : Bool) → is_gb18030_digit b ≡ t → IsUnitOf (a ∷ b ∷ rest) (gb18030_sequence index ranges mode a (b ∷ rest))
        by_test true e = rw e (third mode a b rest)
        by_test false e = rw e (sequence_is mode (a ∷ b ∷ rest) (gb18030_scalar index a b) 2 b (gb18030_scalar_is index a b finds) (omega arith) (omega arith) (omega arith))

    each : (mode : Mode) (rest : List ℕ) → AreBytes rest → 0 < length rest → IsUnitOf rest (gb18030_unit index ranges mode rest)
    each mode [] are h = absurd (omega arith)
    each mode (a ∷ rest) are h = by_tests (nat_lt a 0x80) refl (a == 0x80) refl (is_gb18030_lead a) refl
      where
        by_tests : (r : Bool) → nat_lt a 0x80 ≡ r → (s : Bool) → (a == 0x80) ≡ s → (t : Bool) → is_gb18030_lead a ≡ t → IsUnitOf (a ∷ rest) (gb18030_unit index ranges mode (a ∷ rest))
        by_tests true d s e t f = rw d (ascii_is mode (a ∷ rest) a d (omega arith))
        by_tests false d true e t f = rw (d, e) (one_is mode (a ∷ rest) 0x20AC (scalar_low 0x20AC (omega arith)) (omega arith) (omega arith))
        by_tests false d false e true f = rw (d, e, f) (sequence mode a rest)
        by_tests false d false e false f = rw (d, e, f) (malformed_is mode (a ∷ rest) 1 (omega arith) (omega arith) (omega arith))

    first_four : (mode : Mode) (x y : List ℕ) → AreBytes x → AreBytes y → 4 ≤ length x → 4 ≤ length y → take 4 x ≡ take 4 y → gb18030_unit index ranges mode x ≡ gb18030_unit index ranges mode y
    first_four mode (a ∷ b ∷ c ∷ d ∷ xs) (s ∷ t ∷ u ∷ v ∷ ys) are too h k e =
        let ea : a ≡ s = ap (λ l. get_or l 0 0) e in
        let eb : b ≡ t = ap (λ l. get_or l 1 0) e in
        let ec : c ≡ u = ap (λ l. get_or l 2 0) e in
        let ed : d ≡ v = ap (λ l. get_or l 3 0) e in
        rw (ea, eb, ec, ed) refl
    first_four mode (a ∷ b ∷ c ∷ []) y are too h k e = absurd (omega arith)
    first_four mode (a ∷ b ∷ []) y are too h k e = absurd (omega arith)
    first_four mode (a ∷ []) y are too h k e = absurd (omega arith)
    first_four mode [] y are too h k e = absurd (omega arith)
    first_four mode (a ∷ b ∷ c ∷ d ∷ xs) (s ∷ t ∷ u ∷ []) are too h k e = absurd (omega arith)
    first_four mode (a ∷ b ∷ c ∷ d ∷ xs) (s ∷ t ∷ []) are too h k e = absurd (omega arith)
    first_four mode (a ∷ b ∷ c ∷ d ∷ xs) (s ∷ []) are too h k e = absurd (omega arith)
    first_four mode (a ∷ b ∷ c ∷ d ∷ xs) [] are too h k e = absurd (omega arith)
