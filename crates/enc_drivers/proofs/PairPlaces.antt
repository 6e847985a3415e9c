-- The two bytes of a place, in codes of a lead and a byte behind it.
use Rattle.std.proofs.Common.{◌≡◌, ℕ, ◌+◌, ◌/◌, ◌%◌, ◌<◌, true, cond, ltb, List, [], ◌∷◌, ◌++◌, refl, ap, ◌∙◌, arith}
use Rattle.std.proofs.lemmas.Bool.Decides.{nat_tests}
use Rattle.enc_drivers.specs.declared.unit.Item.{Item}
use Rattle.enc_drivers.specs.declared.unit.Item.TheVariants.{One, Two, Malformed, Silent}
use Rattle.enc_drivers.specs.declared.unit.Mode.{Mode}
use Rattle.enc_drivers.specs.Lookup.{Places}
use Rattle.enc_drivers.specs.Codes.Pairs.{Pairs, item_found, both_len, pairs_unit}
use Rattle.enc_drivers.specs.Codes.Big5.{is_big5_lead, is_big5_trail, big5_place, big5_at, big5_pairs, big5_bytes, big5_unit}
use Rattle.enc_drivers.specs.Codes.EucKr.{is_euc_kr_lead, is_euc_kr_trail, euc_kr_place, euc_kr_pairs, euc_kr_bytes, euc_kr_unit}
use Rattle.enc_drivers.specs.Codes.ShiftJis.{is_shift_jis_lead, is_shift_jis_trail, shift_jis_place, shift_jis_at, shift_jis_pairs, shift_jis_bytes, shift_jis_unit}
use Rattle.enc_drivers.proofs.PairSteps.{both_front}

-- what doesn't fail has both bytes
long : (item : Item) (second : ℕ) → ¬ (item ≡ Malformed) → both_len item second ≡ 2
long (One scalar) second h = refl
long (Two first next) second h = refl
long Malformed second h = absurd (h refl)
long Silent second h = refl

-- two bytes that are a lead and have an item
read_pair : (pairs : Pairs) (mode : Mode) (a b : ℕ) (rest : List ℕ) (item : Item) → pairs.is_lead a ≡ true → pairs.both a b ≡ item → ¬ (item ≡ Malformed)
    → pairs_unit pairs mode ((a ∷ b ∷ []) ++ rest) ≡ record { item = item; len = 2; next = mode }
read_pair pairs mode a b rest item lead is some =
    both_front pairs mode (a ∷ b ∷ []) rest (omega arith) lead
    ∙ (ap (λ (i : Item). record { item = i; len = both_len i b; next = mode }) is
    ∙ ap (λ n. record { item = item; len = n; next = mode }) (long item b some))

-- EUC-KR
euc_kr_lead : (place : ℕ) → place < 23940 → is_euc_kr_lead (place / 190 + 0x81) ≡ true
euc_kr_lead place h = grind (arith, nat_tests)

euc_kr_trail : (place : ℕ) → is_euc_kr_trail (place % 190 + 0x41) ≡ true
euc_kr_trail place = grind (arith, nat_tests)

euc_kr_same : (place : ℕ) → euc_kr_place (place / 190 + 0x81) (place % 190 + 0x41) ≡ place
euc_kr_same place = omega arith

pub euc_kr_read_back : (places : Places) (mode : Mode) (place : ℕ) (rest : List ℕ) → place < 23940 → ¬ (item_found (places place) ≡ Malformed)
    → euc_kr_unit places mode (euc_kr_bytes place ++ rest) ≡ record { item = item_found (places place); len = 2; next = mode }
euc_kr_read_back places mode place rest h some =
    read_pair (euc_kr_pairs places) mode (place / 190 + 0x81) (place % 190 + 0x41) rest (item_found (places place)) (euc_kr_lead place h)
    (rw (euc_kr_trail place, euc_kr_same place) refl) some

pub euc_kr_unique : (lead trail : ℕ) → is_euc_kr_lead lead ≡ true → is_euc_kr_trail trail ≡ true → euc_kr_bytes (euc_kr_place lead trail) ≡ lead ∷ trail ∷ []
euc_kr_unique lead trail l t =
    let first : euc_kr_place lead trail / 190 + 0x81 ≡ lead = grind (arith, nat_tests) in
    let second : euc_kr_place lead trail % 190 + 0x41 ≡ trail = grind (arith, nat_tests) in
    rw (first, second) refl

-- Big5
abbrev big5_offset : ℕ → ℕ
big5_offset place = cond (ltb (place % 157) 0x3F) 0x40 0x62

big5_lead : (place : ℕ) → place < 19782 → is_big5_lead (place / 157 + 0x81) ≡ true
big5_lead place h = grind (arith, nat_tests)

big5_trail : (place : ℕ) → is_big5_trail (place % 157 + big5_offset place) ≡ true
big5_trail place = grind (arith, nat_tests)

big5_same : (place : ℕ) → big5_place (place / 157 + 0x81) (place % 157 + big5_offset place) ≡ place
big5_same place = grind (arith, nat_tests)

pub big5_read_back : (places : Places) (mode : Mode) (place : ℕ) (rest : List ℕ) → place < 19782 → ¬ (big5_at places place ≡ Malformed)
    → big5_unit places mode (big5_bytes place ++ rest) ≡ record { item = big5_at places place; len = 2; next = mode }
big5_read_back places mode place rest h some =
    read_pair (big5_pairs places) mode (place / 157 + 0x81) (place % 157 + big5_offset place) rest (big5_at places place) (big5_lead place h)
    (rw (big5_trail place, big5_same place) refl) some

pub big5_unique : (lead trail : ℕ) → is_big5_lead lead ≡ true → is_big5_trail trail ≡ true → big5_bytes (big5_place lead trail) ≡ lead ∷ trail ∷ []
big5_unique lead trail l t =
    let place = big5_place lead trail in
    let first : place / 157 + 0x81 ≡ lead = grind (arith, nat_tests) in
    let second : place % 157 + big5_offset place ≡ trail = grind (arith, nat_tests) in
    rw (first, second) refl

-- Shift_JIS
abbrev jis_lead_offset : ℕ → ℕ
jis_lead_offset place = cond (ltb (place / 188) 0x1F) 0x81 0xC1

abbrev jis_offset : ℕ → ℕ
jis_offset place = cond (ltb (place % 188) 0x3F) 0x40 0x41

jis_lead : (place : ℕ) → place < 11280 → is_shift_jis_lead (place / 188 + jis_lead_offset place) ≡ true
jis_lead place h = grind (arith, nat_tests)

jis_trail : (place : ℕ) → is_shift_jis_trail (place % 188 + jis_offset place) ≡ true
jis_trail place = grind (arith, nat_tests)

jis_same : (place : ℕ) → place < 11280 → shift_jis_place (place / 188 + jis_lead_offset place) (place % 188 + jis_offset place) ≡ place
jis_same place h = grind (arith, nat_tests)

pub shift_jis_read_back : (places : Places) (mode : Mode) (place : ℕ) (rest : List ℕ) → place < 11280 → ¬ (shift_jis_at places place ≡ Malformed)
    → shift_jis_unit places mode (shift_jis_bytes place ++ rest) ≡ record { item = shift_jis_at places place; len = 2; next = mode }
shift_jis_read_back places mode place rest h some =
    read_pair (shift_jis_pairs places) mode (place / 188 + jis_lead_offset place) (place % 188 + jis_offset place) rest (shift_jis_at places place) (jis_lead place h)
    (rw (jis_trail place, jis_same place h) refl) some

pub shift_jis_unique : (lead trail : ℕ) → is_shift_jis_lead lead ≡ true → is_shift_jis_trail trail ≡ true → shift_jis_bytes (shift_jis_place lead trail) ≡ lead ∷ trail ∷ []
shift_jis_unique lead trail l t =
    let place = shift_jis_place lead trail in
    let first : place / 188 + jis_lead_offset place ≡ lead = grind (arith, nat_tests) in
    let second : place % 188 + jis_offset place ≡ trail = grind (arith, nat_tests) in
    rw (first, second) refl
