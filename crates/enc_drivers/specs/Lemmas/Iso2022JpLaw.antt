-- The laws of ISO-2022-JP.
use Rattle.std.proofs.Common.{◌≡◌, ℕ, ◌+◌, ◌-◌, ◌*◌, ◌<◌, ◌≤◌, Bool, true, false, cond, ltb-true}
use Rattle.std.proofs.Common.{leb-true, List, [], ◌∷◌, length, get_or, take, refl, ap, arith}
use Rattle.std.specs.Prelude.{nat_lt, nat_le, ◌==◌, ◌&&◌, ◌||◌, Option, Some, None}
use Rattle.std.specs.Option.{ForSome}
use Rattle.std.specs.Char.{IsScalar}
use Rattle.std.proofs.lemmas.Bool.{and_parts}
use Rattle.enc_drivers.specs.declared.unit.JisSet.{JisSet}
use Rattle.enc_drivers.specs.declared.unit.JisSet.TheVariants.{Ascii, Roman, Katakana, Jis0208}
use Rattle.enc_drivers.specs.declared.unit.Mode.{Mode}
use Rattle.enc_drivers.specs.declared.unit.Mode.TheVariants.{Plain, Within, AfterEscape}
use Rattle.enc_drivers.specs.Units.{IsCode, IsUnitOf, AreBytes}
use Rattle.enc_drivers.specs.Lookup.{Places, FindsScalars}
use Rattle.enc_drivers.specs.Codes.Sequence.{whole_unit}
use Rattle.enc_drivers.specs.Codes.Iso2022Jp.{set_of, escape_set, escaped, escape_unit}
use Rattle.enc_drivers.specs.Codes.Iso2022Jp.{ascii_scalar, roman_scalar, katakana_scalar}
use Rattle.enc_drivers.specs.Codes.Iso2022Jp.{single_scalar, in_jis_row, is_jis_lead, jis_pair}
use Rattle.enc_drivers.specs.Codes.Iso2022Jp.{set_unit, iso_2022_jp_unit}
use Rattle.enc_drivers.specs.Lemmas.Scalars.{scalar_low, scalar_high}
use Rattle.enc_drivers.specs.Lemmas.SequenceLaw.{malformed_is, one_is, whole_is}

-- a scalar below U+10000
abbrev IsNarrow : ℕ → Type 0
IsNarrow c = IsScalar c × (c < 0x10000)

narrow_some : (c d : ℕ) → IsNarrow c → Some c ≡ Some d → IsNarrow d
narrow_some c d s e = let same : c ≡ d = cc in rw (← same) s

ascii_narrow : (b : ℕ) → ForSome (ascii_scalar b) IsNarrow
unfolding ascii_scalar
ascii_narrow b = by_tests (b == 0x0E || b == 0x0F || b == 0x1B) refl (nat_lt b 0x80) refl
  where
    by_tests : (s : Bool) → (b == 0x0E || b == 0x0F || b == 0x1B) ≡ s → (t : Bool) → nat_lt b 0x80 ≡ t → ForSome (cond (b == 0x0E || b == 0x0F || b == 0x1B) None (cond (nat_lt b 0x80) (Some b) None)) IsNarrow
    by_tests true e t f = rw e (λ c is. absurd (cc is))
    by_tests false e true f =
        let low : b < 0x80 = ltb-true b 0x80 f in
        rw (e, f) (λ c is. narrow_some b c (scalar_low b (omega arith), omega arith) is)
    by_tests false e false f = rw (e, f) (λ c is. absurd (cc is))

roman_narrow : (b : ℕ) → ForSome (roman_scalar b) IsNarrow
unfolding roman_scalar
roman_narrow b = by_tests (b == 0x5C) refl (b == 0x7E) refl
  where
    by_tests : (s : Bool) → (b == 0x5C) ≡ s → (t : Bool) → (b == 0x7E) ≡ t → ForSome (cond (b == 0x5C) (Some 0xA5) (cond (b == 0x7E) (Some 0x203E) (ascii_scalar b))) IsNarrow
    by_tests true e t f = rw e (λ c is. narrow_some 0xA5 c (scalar_low 0xA5 (omega arith), omega arith) is)
    by_tests false e true f = rw (e, f) (λ c is. narrow_some 0x203E c (scalar_low 0x203E (omega arith), omega arith) is)
    by_tests false e false f = rw (e, f) (ascii_narrow b)

katakana_narrow : (b : ℕ) → ForSome (katakana_scalar b) IsNarrow
unfolding katakana_scalar
katakana_narrow b = by_test (nat_le 0x21 b && nat_le b 0x5F) refl
  where
    by_test : (t : Bool) → (nat_le 0x21 b && nat_le b 0x5F) ≡ t → ForSome (cond (nat_le 0x21 b && nat_le b 0x5F) (Some (0xFF61 + (b - 0x21))) None) IsNarrow
    by_test true e =
        let high : b ≤ 0x5F = leb-true b 0x5F (and_parts (nat_le 0x21 b) (nat_le b 0x5F) e).1 in
        rw e (λ c is. narrow_some (0xFF61 + (b - 0x21)) c (scalar_high (0xFF61 + (b - 0x21)) (omega arith) (omega arith), omega arith) is)
    by_test false e = rw e (λ c is. absurd (cc is))

single_narrow : (set : JisSet) (b : ℕ) → ForSome (single_scalar set b) IsNarrow
single_narrow Ascii b = ascii_narrow b
single_narrow Roman b = roman_narrow b
single_narrow Katakana b = katakana_narrow b
single_narrow Jis0208 b = λ c is. absurd (cc is)

single_is : (mode : Mode) (rest : List ℕ) (o : Option ℕ) → ForSome o IsNarrow → 1 ≤ length rest → IsUnitOf rest (whole_unit mode o 1)
single_is mode rest (Some c) narrow within = let is : IsNarrow c = narrow c refl in one_is mode rest c is.0 is.1 within
single_is mode rest None narrow within = malformed_is mode rest 1 (omega arith) (omega arith) within

escaped_is : (mode : Mode) (rest : List ℕ) (o : Option JisSet) → 3 ≤ length rest → IsUnitOf rest (escaped mode o)
escaped_is mode rest None within = malformed_is (Within (set_of mode)) rest 1 (omega arith) (omega arith) (omega arith)
escaped_is Plain rest (Some set) within = record { some = omega arith; four = omega arith; within = within; scalars = tt; short_text = omega arith }
escaped_is (Within old) rest (Some set) within = record { some = omega arith; four = omega arith; within = within; scalars = tt; short_text = omega arith }
escaped_is (AfterEscape old) rest (Some set) within = malformed_is (AfterEscape set) rest 3 (omega arith) (omega arith) within

pub iso_2022_jp_law : (jis0208 : Places) → FindsScalars jis0208 → IsCode (iso_2022_jp_unit jis0208)
unfolding iso_2022_jp_unit set_unit jis_pair escape_unit
iso_2022_jp_law jis0208 finds = record { each = each; first_four = first_four }
  where
    escape : (mode : Mode) (a : ℕ) (rest : List ℕ) → IsUnitOf (a ∷ rest) (escape_unit mode rest)
    escape mode a [] = malformed_is (Within (set_of mode)) (a ∷ []) 1 (omega arith) (omega arith) (omega arith)
    escape mode a (b ∷ []) = malformed_is (Within (set_of mode)) (a ∷ b ∷ []) 1 (omega arith) (omega arith) (omega arith)
    escape mode a (b ∷ c ∷ rest) = escaped_is mode (a ∷ b ∷ c ∷ rest) (escape_set b c) (omega arith)

    pair : (next : Mode) (a : ℕ) (rest : List ℕ) → IsUnitOf (a ∷ rest) (jis_pair jis0208 next a rest)
    pair next a [] = malformed_is next (a ∷ []) 1 (omega arith) (omega arith) (omega arith)
    pair next a (b ∷ rest) = by_tests (b == 0x1B) refl (in_jis_row b) refl
      where
        by_tests : (s : Bool) → (b == 0x1B) ≡ s → (t : Bool) → in_jis_row b ≡ t → IsUnitOf (a ∷ b ∷ rest) (jis_pair jis0208 next a (b ∷ rest))
        by_tests true e t f = rw e (malformed_is next (a ∷ b ∷ rest) 1 (omega arith) (omega arith) (omega arith))
        by_tests false e true f = rw (e, f) (whole_is next (a ∷ b ∷ rest) (jis0208 ((a - 0x21) * 94 + (b - 0x21))) 2 (finds ((a - 0x21) * 94 + (b - 0x21))) (omega arith) (omega arith) (omega arith))
        by_tests false e false f = rw (e, f) (malformed_is next (a ∷ b ∷ rest) 2 (omega arith) (omega arith) (omega arith))

    in_set : (set : JisSet) (a : ℕ) (rest : List ℕ) → IsUnitOf (a ∷ rest) (set_unit jis0208 set a rest)
    in_set set a rest = by_test (is_jis_lead set a) refl
      where
        by_test : (t : Bool) → is_jis_lead set a ≡ t → IsUnitOf (a ∷ rest) (set_unit jis0208 set a rest)
        by_test true e = rw e (pair (Within set) a rest)
        by_test false e = rw e (single_is (Within set) (a ∷ rest) (single_scalar set a) (single_narrow set a) (omega arith))

    each : (mode : Mode) (rest : List ℕ) → AreBytes rest → 0 < length rest → IsUnitOf rest (iso_2022_jp_unit jis0208 mode rest)
    each mode [] are h = absurd (omega arith)
    each mode (a ∷ rest) are h = by_test (a == 0x1B) refl
      where
        by_test : (t : Bool) → (a == 0x1B) ≡ t → IsUnitOf (a ∷ rest) (iso_2022_jp_unit jis0208 mode (a ∷ rest))
        by_test true e = rw e (escape mode a rest)
        by_test false e = rw e (in_set (set_of mode) a rest)

    first_four : (mode : Mode) (x y : List ℕ) → AreBytes x → AreBytes y → 4 ≤ length x → 4 ≤ length y → take 4 x ≡ take 4 y → iso_2022_jp_unit jis0208 mode x ≡ iso_2022_jp_unit jis0208 mode y
    first_four mode (a ∷ b ∷ c ∷ xs) (s ∷ t ∷ u ∷ ys) are too h k e =
        let ea : a ≡ s = ap (λ l. get_or l 0 0) e in
        let eb : b ≡ t = ap (λ l. get_or l 1 0) e in
        let ec : c ≡ u = ap (λ l. get_or l 2 0) e in
        rw (ea, eb, ec) refl
    first_four mode (a ∷ b ∷ []) y are too h k e = absurd (omega arith)
    first_four mode (a ∷ []) y are too h k e = absurd (omega arith)
    first_four mode [] y are too h k e = absurd (omega arith)
    first_four mode (a ∷ b ∷ c ∷ xs) (s ∷ t ∷ []) are too h k e = absurd (omega arith)
    first_four mode (a ∷ b ∷ c ∷ xs) (s ∷ []) are too h k e = absurd (omega arith)
    first_four mode (a ∷ b ∷ c ∷ xs) [] are too h k e = absurd (omega arith)
