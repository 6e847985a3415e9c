-- The laws of EUC-JP.
use Rattle.std.proofs.Common.{◌≡◌, ℕ, ◌+◌, ◌-◌, ◌*◌, ◌<◌, ◌≤◌, Bool, true, false, cond, lt-ltb}
use Rattle.std.proofs.Common.{List, [], ◌∷◌, length, get_or, take, refl, ap, arith}
use Rattle.std.specs.Prelude.{nat_lt, nat_le, ◌==◌, ◌&&◌, Some, None}
use Rattle.std.specs.Option.{ForSome}
use Rattle.std.specs.Char.{IsScalar}
use Rattle.std.proofs.lemmas.Bool.{and_parts, leb-true}
use Rattle.enc_drivers.specs.declared.unit.Mode.{Mode}
use Rattle.enc_drivers.specs.Units.{scalar_at, IsCode, IsUnitOf, AreBytes}
use Rattle.enc_drivers.specs.Lookup.{Places, FindsScalars}
use Rattle.enc_drivers.specs.Codes.EucJp.{in_row, is_euc_jp_lead, row_scalar, euc_jp_scalar}
use Rattle.enc_drivers.specs.Codes.EucJp.{jis0212_unit, euc_jp_sequence, euc_jp_unit}
use Rattle.enc_drivers.specs.Lemmas.Scalars.{scalar_high}
use Rattle.enc_drivers.specs.Lemmas.SequenceLaw.{malformed_is, ascii_is, sequence_is}

-- a byte below 80 is a unit of itself
pub euc_jp_ascii : (jis0208 jis0212 : Places) (mode : Mode) (b : ℕ) (rest : List ℕ) → b < 0x80 → euc_jp_unit jis0208 jis0212 mode (b ∷ rest) ≡ scalar_at mode b 1
unfolding euc_jp_unit
euc_jp_ascii jis0208 jis0212 mode b rest h = rw (lt-ltb b 0x80 h) refl

some_scalar : (c d : ℕ) → IsScalar c → Some c ≡ Some d → IsScalar d
some_scalar c d s e = let same : c ≡ d = cc in rw (← same) s

row_is : (places : Places) (a b : ℕ) → FindsScalars places → ForSome (row_scalar places a b) (λ c. IsScalar c)
unfolding row_scalar
row_is places a b finds = by_test (in_row a && in_row b) refl
  where
    by_test : (t : Bool) → (in_row a && in_row b) ≡ t → ForSome (cond (in_row a && in_row b) (places ((a - 0xA1) * 94 + (b - 0xA1))) None) (λ c. IsScalar c)
    by_test true e = rw e (finds ((a - 0xA1) * 94 + (b - 0xA1)))
    by_test false e = rw e (λ c f. absurd (cc f))

euc_jp_scalar_is : (places : Places) (a b : ℕ) → FindsScalars places → ForSome (euc_jp_scalar places a b) (λ c. IsScalar c)
unfolding euc_jp_scalar
euc_jp_scalar_is places a b finds = by_test (a == 0x8E && (nat_le 0xA1 b && nat_le b 0xDF)) refl
  where
    by_test : (t : Bool) → (a == 0x8E && (nat_le 0xA1 b && nat_le b 0xDF)) ≡ t → ForSome (cond (a == 0x8E && (nat_le 0xA1 b && nat_le b 0xDF)) (Some (0xFF61 + (b - 0xA1))) (row_scalar places a b)) (λ c. IsScalar c)
    by_test true e =
        let range = and_parts (nat_le 0xA1 b) (nat_le b 0xDF) (and_parts (a == 0x8E) (nat_le 0xA1 b && nat_le b 0xDF) e).1 in
        let high : b ≤ 0xDF = leb-true b 0xDF range.1 in
        rw e (λ c f. some_scalar (0xFF61 + (b - 0xA1)) c (scalar_high (0xFF61 + (b - 0xA1)) (omega arith) (omega arith)) f)
    by_test false e = rw e (row_is places a b finds)

pub euc_jp_law : (jis0208 jis0212 : Places) → FindsScalars jis0208 → FindsScalars jis0212 → IsCode (euc_jp_unit jis0208 jis0212)
unfolding euc_jp_unit euc_jp_sequence jis0212_unit
euc_jp_law jis0208 jis0212 finds finds_more = record { each = each; first_four = first_four }
  where
    sequence : (mode : Mode) (a : ℕ) (rest : List ℕ) → IsUnitOf (a ∷ rest) (euc_jp_sequence jis0208 jis0212 mode a rest)
    sequence mode a [] = malformed_is mode (a ∷ []) 1 (omega arith) (omega arith) (omega arith)
    sequence mode a (b ∷ rest) = by_test rest (a == 0x8F && in_row b) refl
      where
        by_test : (rest : List ℕ) (t : Bool) → (a == 0x8F && in_row b) ≡ t → IsUnitOf (a ∷ b ∷ rest) (euc_jp_sequence jis0208 jis0212 mode a (b ∷ rest))
        by_test [] true e = rw e (malformed_is mode (a ∷ b ∷ []) 2 (omega arith) (omega arith) (omega arith))
        by_test (c ∷ rest) true e = rw e (sequence_is mode (a ∷ b ∷ c ∷ rest) (row_scalar jis0212 b c) 3 c (row_is jis0212 b c finds_more) (omega arith) (omega arith) (omega arith))
        by_test rest false e = rw e (sequence_is mode (a ∷ b ∷ rest) (euc_jp_scalar jis0208 a b) 2 b (euc_jp_scalar_is jis0208 a b finds) (omega arith) (omega arith) (omega arith))

    each : (mode : Mode) (rest : List ℕ) → AreBytes rest → 0 < length rest → IsUnitOf rest (euc_jp_unit jis0208 jis0212 mode rest)
    each mode [] are h = absurd (omega arith)
    each mode (a ∷ rest) are h = by_tests (nat_lt a 0x80) refl (is_euc_jp_lead a) refl
      where
        by_tests : (s : Bool) → nat_lt a 0x80 ≡ s → (t : Bool) → is_euc_jp_lead a ≡ t → IsUnitOf (a ∷ rest) (euc_jp_unit jis0208 jis0212 mode (a ∷ rest))
        by_tests true e t f = rw e (ascii_is mode (a ∷ rest) a e (omega arith))
        by_tests false e true f = rw (e, f) (sequence mode a rest)
        by_tests false e false f = rw (e, f) (malformed_is mode (a ∷ rest) 1 (omega arith) (omega arith) (omega arith))

    first_four : (mode : Mode) (x y : List ℕ) → AreBytes x → AreBytes y → 4 ≤ length x → 4 ≤ length y → take 4 x ≡ take 4 y → euc_jp_unit jis0208 jis0212 mode x ≡ euc_jp_unit jis0208 jis0212 mode y
    first_four mode (a ∷ b ∷ c ∷ xs) (s ∷ t ∷ u ∷ ys) are too h k e =
        let ea : a ≡ s = ap (λ l. get_or l 0 0) e in
        let eb : b ≡ t = ap (λ l. get_or l 1 0) e in
        let ec : c ≡ u = ap (λ l. get_or l 2 0) e in
        rw (ea, eb, ec) refl
    first_four mode (a ∷ b ∷ []) y are too h k e = absurd (omega arith)
    first_four mode (a ∷ []) y are too h k e = absurd (omega arith)
    first_four mode [] y are too h k e = absurd (omega arith)
    first_four mode (a ∷ b ∷ c ∷ xs) (s ∷ t ∷ []) are too h k e = absurd (omega arith)
    first_four mode (a ∷ b ∷ c ∷ xs) (s ∷ []) are too h k e = absurd (omega arith)
    first_four mode (a ∷ b ∷ c ∷ xs) [] are too h k e = absurd (omega arith)
