-- The bytes of a place, in EUC-JP, gb18030 and ISO-2022-JP.
use Rattle.std.proofs.Common.{◌≡◌, ℕ, ◌+◌, ◌-◌, ◌*◌, ◌/◌, ◌%◌, ◌<◌, Bool, true, false, cond, ltb, List, [], ◌∷◌, ◌++◌, refl, ap, sym, ◌∙◌, arith}
use Rattle.std.specs.Prelude.{◌==◌, ◌&&◌, ◌||◌, Option, Some, None}
use Rattle.std.proofs.lemmas.Bool.{ne_eqb, or_right, and_left}
use Rattle.std.proofs.lemmas.Bool.Decides.{nat_tests}
use Rattle.enc_drivers.specs.declared.unit.JisSet.{JisSet}
use Rattle.enc_drivers.specs.declared.unit.JisSet.TheVariants.{Jis0208}
use Rattle.enc_drivers.specs.declared.unit.Mode.{Mode}
use Rattle.enc_drivers.specs.declared.unit.Mode.TheVariants.{Plain, Within, AfterEscape}
use Rattle.enc_drivers.specs.Lookup.{Places}
use Rattle.enc_drivers.specs.Units.{scalar_at}
use Rattle.enc_drivers.specs.Codes.Sequence.{sequence_unit, whole_unit}
use Rattle.enc_drivers.specs.Codes.EucJp.{in_row, is_euc_jp_lead, row_scalar, euc_jp_scalar, euc_jp_bytes, euc_jp_unit}
use Rattle.enc_drivers.specs.Codes.Gb18030.{is_gb18030_lead, is_gb18030_digit, is_gb18030_trail, gb18030_scalar, ranges_place, gb18030_bytes, ranges_bytes, gb18030_unit}
use Rattle.enc_drivers.specs.Codes.Iso2022Jp.{set_of, in_jis_row, escape_set, escaped, escape_unit, single_scalar, is_jis_lead, jis_pair, set_unit, iso_2022_jp_bytes, iso_2022_jp_unit}
use Rattle.enc_drivers.proofs.EucJpSteps as euc
use Rattle.enc_drivers.proofs.Gb18030Steps as gb
use Rattle.enc_drivers.proofs.Iso2022JpSteps as iso

-- EUC-JP
high_row : (place : ℕ) → place < 8836 → in_row (place / 94 + 0xA1) ≡ true
high_row place h = grind (arith, nat_tests)

low_row : (place : ℕ) → in_row (place % 94 + 0xA1) ≡ true
low_row place = grind (arith, nat_tests)

row_place : (place : ℕ) → (place / 94 + 0xA1 - 0xA1) * 94 + (place % 94 + 0xA1 - 0xA1) ≡ place
row_place place = omega arith

row_scalar_at : (places : Places) (place : ℕ) → place < 8836 → row_scalar places (place / 94 + 0xA1) (place % 94 + 0xA1) ≡ places place
unfolding row_scalar
row_scalar_at places place h = rw (high_row place h, low_row place, row_place place) refl

euc_jp_scalar_at : (places : Places) (place : ℕ) → place < 8836 → euc_jp_scalar places (place / 94 + 0xA1) (place % 94 + 0xA1) ≡ places place
unfolding euc_jp_scalar
euc_jp_scalar_at places place h = rw (ne_eqb (place / 94 + 0xA1) 0x8E (λ e. omega arith)) (row_scalar_at places place h)

pub euc_jp_read_back : (jis0208 jis0212 : Places) (mode : Mode) (place scalar : ℕ) (rest : List ℕ) → place < 8836 → jis0208 place ≡ Some scalar
    → euc_jp_unit jis0208 jis0212 mode (euc_jp_bytes place ++ rest) ≡ scalar_at mode scalar 2
euc_jp_read_back p q mode place scalar rest h is =
    let lead : is_euc_jp_lead (place / 94 + 0xA1) ≡ true = or_right (place / 94 + 0xA1 == 0x8E || place / 94 + 0xA1 == 0x8F) (in_row (place / 94 + 0xA1)) (high_row place h) in
    let begins : euc.BeginsSequence (euc_jp_bytes place) = record { some = omega arith; high = omega arith; lead = lead } in
    let two : (place / 94 + 0xA1 == 0x8F && in_row (place % 94 + 0xA1)) ≡ false = and_left (place / 94 + 0xA1 == 0x8F) (in_row (place % 94 + 0xA1)) (ne_eqb (place / 94 + 0xA1) 0x8F (λ e. omega arith)) in
    euc.two_front p q mode (euc_jp_bytes place) rest begins (omega arith) two
    ∙ ap (λ o. sequence_unit mode o 2 (place % 94 + 0xA1)) (euc_jp_scalar_at p place h ∙ is)

pub euc_jp_read_back_of_three : (jis0208 jis0212 : Places) (mode : Mode) (place scalar : ℕ) (rest : List ℕ) → place < 8836 → jis0212 place ≡ Some scalar
    → euc_jp_unit jis0208 jis0212 mode (0x8F ∷ (euc_jp_bytes place ++ rest)) ≡ scalar_at mode scalar 3
euc_jp_read_back_of_three p q mode place scalar rest h is =
    let begins : euc.BeginsSequence (0x8F ∷ euc_jp_bytes place) = record { some = omega arith; high = omega arith; lead = refl } in
    euc.three_front p q mode (0x8F ∷ euc_jp_bytes place) rest begins (omega arith) (high_row place h)
    ∙ ap (λ o. sequence_unit mode o 3 (place % 94 + 0xA1)) (row_scalar_at q place h ∙ is)

-- gb18030
abbrev trail : ℕ → ℕ
trail place = place % 190 + cond (ltb (place % 190) 0x3F) 0x40 0x41

gb_lead : (place : ℕ) → place < 23940 → is_gb18030_lead (place / 190 + 0x81) ≡ true
gb_lead place h = grind (arith, nat_tests)

gb_trail : (place : ℕ) → is_gb18030_trail (trail place) ≡ true
gb_trail place = grind (arith, nat_tests)

gb_no_digit : (place : ℕ) → is_gb18030_digit (trail place) ≡ false
gb_no_digit place = grind (arith, nat_tests)

gb_place : (place : ℕ) → (place / 190 + 0x81 - 0x81) * 190 + (trail place - cond (ltb (trail place) 0x7F) 0x40 0x41) ≡ place
gb_place place = grind (arith, nat_tests)

gb_scalar_at : (places : Places) (place : ℕ) → gb18030_scalar places (place / 190 + 0x81) (trail place) ≡ places place
unfolding gb18030_scalar
gb_scalar_at places place = rw (gb_trail place, gb_place place) refl

pub gb18030_read_back : (index ranges : Places) (mode : Mode) (place scalar : ℕ) (rest : List ℕ) → place < 23940 → index place ≡ Some scalar
    → gb18030_unit index ranges mode (gb18030_bytes place ++ rest) ≡ scalar_at mode scalar 2
gb18030_read_back p q mode place scalar rest h is =
    gb.two_front p q mode (gb18030_bytes place) rest (omega arith) (gb_lead place h) (gb_no_digit place)
    ∙ ap (λ o. sequence_unit mode o 2 (trail place)) (gb_scalar_at p place ∙ is)

ranges_first : (place : ℕ) → place < 1587600 → is_gb18030_lead (place / 12600 + 0x81) ≡ true
ranges_first place h = grind (arith, nat_tests)

ranges_second : (place : ℕ) → is_gb18030_digit (place % 12600 / 1260 + 0x30) ≡ true
ranges_second place = grind (arith, nat_tests)

ranges_third : (place : ℕ) → is_gb18030_lead (place % 1260 / 10 + 0x81) ≡ true
ranges_third place = grind (arith, nat_tests)

ranges_fourth : (place : ℕ) → is_gb18030_digit (place % 10 + 0x30) ≡ true
ranges_fourth place = grind (arith, nat_tests)

ranges_same : (place : ℕ) → ranges_place (place / 12600 + 0x81) (place % 12600 / 1260 + 0x30) (place % 1260 / 10 + 0x81) (place % 10 + 0x30) ≡ place
unfolding ranges_place
ranges_same place = omega arith

pub gb18030_read_back_of_four : (index ranges : Places) (mode : Mode) (place scalar : ℕ) (rest : List ℕ) → place < 1587600 → ranges place ≡ Some scalar
    → gb18030_unit index ranges mode (ranges_bytes place ++ rest) ≡ scalar_at mode scalar 4
gb18030_read_back_of_four p q mode place scalar rest h is =
    let begins : gb.BeginsFour (ranges_bytes place) = record { two = omega arith; lead = ranges_first place h; digit = ranges_second place } in
    gb.four_front p q mode (ranges_bytes place) rest begins (omega arith) (ranges_third place) (ranges_fourth place)
    ∙ ap (λ o. whole_unit mode o 4) (ap q (ranges_same place) ∙ is)

-- ISO-2022-JP
jis_high : (place : ℕ) → place < 8836 → in_jis_row (place / 94 + 0x21) ≡ true
jis_high place h = grind (arith, nat_tests)

jis_low : (place : ℕ) → in_jis_row (place % 94 + 0x21) ≡ true
jis_low place = grind (arith, nat_tests)

jis_place : (place : ℕ) → (place / 94 + 0x21 - 0x21) * 94 + (place % 94 + 0x21 - 0x21) ≡ place
jis_place place = omega arith

pub iso_2022_jp_read_back : (jis0208 : Places) (mode : Mode) (place scalar : ℕ) (rest : List ℕ) → place < 8836 → set_of mode ≡ Jis0208 → jis0208 place ≡ Some scalar
    → iso_2022_jp_unit jis0208 mode (iso_2022_jp_bytes place ++ rest) ≡ scalar_at (Within Jis0208) scalar 2
iso_2022_jp_read_back q mode place scalar rest h in_set is =
    let begins : iso.BeginsPair mode Jis0208 (iso_2022_jp_bytes place) = record { some = omega arith; no_escape = λ e. omega arith; set_is = sym in_set; lead = jis_high place h } in
    iso.pair_front q mode Jis0208 (iso_2022_jp_bytes place) rest begins (omega arith) (λ e. omega arith) (jis_low place)
    ∙ ap (λ o. whole_unit (Within Jis0208) o 2) (ap q (jis_place place) ∙ is)

-- the modes behind a unit are those of the standard's states, never the start
abbrev IsState : Mode → Type 0
IsState Plain = ⊥
IsState (Within set) = Unit {0}
IsState (AfterEscape set) = Unit {0}

whole_state : (set : JisSet) (o : Option ℕ) (n : ℕ) → IsState (whole_unit (Within set) o n).next
whole_state set (Some c) n = tt
whole_state set None n = tt

escaped_state : (mode : Mode) (o : Option JisSet) → IsState (escaped mode o).next
escaped_state mode (Some set) = tt
escaped_state mode None = tt

escape_state : (mode : Mode) (rest : List ℕ) → IsState (escape_unit mode rest).next
unfolding escape_unit
escape_state mode [] = tt
escape_state mode (b ∷ []) = tt
escape_state mode (b ∷ c ∷ rest) = escaped_state mode (escape_set b c)

pair_state : (q : Places) (set : JisSet) (a : ℕ) (rest : List ℕ) → IsState (jis_pair q (Within set) a rest).next
unfolding jis_pair
pair_state q set a [] = tt
pair_state q set a (b ∷ rest) = by_tests (b == 0x1B) refl (in_jis_row b) refl
  where
    by_tests : (s : Bool) → (b == 0x1B) ≡ s → (t : Bool) → in_jis_row b ≡ t → IsState (jis_pair q (Within set) a (b ∷ rest)).next
    by_tests true e t f = rw e tt
    by_tests false e true f = rw (e, f) (whole_state set (q ((a - 0x21) * 94 + (b - 0x21))) 2)
    by_tests false e false f = rw (e, f) tt

set_state : (q : Places) (set : JisSet) (a : ℕ) (rest : List ℕ) → IsState (set_unit q set a rest).next
unfolding set_unit
set_state q set a rest = by_test (is_jis_lead set a) refl
  where
    by_test : (t : Bool) → is_jis_lead set a ≡ t → IsState (set_unit q set a rest).next
    by_test true e = rw e (pair_state q set a rest)
    by_test false e = rw e (whole_state set (single_scalar set a) 1)

unit_state : (q : Places) (mode : Mode) (rest : List ℕ) → IsState (iso_2022_jp_unit q mode rest).next
unfolding iso_2022_jp_unit
unit_state q mode [] = tt
unit_state q mode (a ∷ rest) = by_test (a == 0x1B) refl
  where
    by_test : (t : Bool) → (a == 0x1B) ≡ t → IsState (iso_2022_jp_unit q mode (a ∷ rest)).next
    by_test true e = rw e (escape_state mode rest)
    by_test false e = rw e (set_state q (set_of mode) a rest)

not_plain : (mode : Mode) → IsState mode → ¬ (mode ≡ Plain)
not_plain Plain s e = s
not_plain (Within set) s e = cc
not_plain (AfterEscape set) s e = cc

pub iso_2022_jp_state : (jis0208 : Places) (mode : Mode) (rest : List ℕ) → ¬ ((iso_2022_jp_unit jis0208 mode rest).next ≡ Plain)
iso_2022_jp_state q mode rest = not_plain (iso_2022_jp_unit q mode rest).next (unit_state q mode rest)
