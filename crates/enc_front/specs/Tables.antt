-- Which pairs of a place and a scalar make an index, and which scalars the index has (Encoding
-- Standard, section 5).
use Rattle.std.specs.Prelude.{◌≡◌, ℕ, ◌+◌, ◌-◌, ◌<◌, ◌≤◌, ◌==◌, nat_le, nat_lt, Bool, false, not}
use Rattle.std.specs.Prelude.{◌&&◌, if◌then◌else◌, List, [], ◌∷◌, ◌++◌, length, find, Option, Some}
use Rattle.std.specs.Prelude.{None, IsTrue}
use Rattle.std.specs.List.{list_any, range_with_len}
use Rattle.std.specs.Option.{option_map, option_map_or, option_or}
use Rattle.enc_drivers.specs.Lookup.{Places}
use Rattle.enc_front.specs.declared.tables.IndexKind.{IndexKind}
use Rattle.enc_front.specs.declared.tables.IndexKind.TheVariants.{Gb18030Ranges}
use Rattle.enc_front.specs.declared.tables.Why.{Why}
use Rattle.enc_front.specs.declared.tables.Why.TheVariants as why
use Rattle.enc_front.specs.Kinds.{place_count, is_ranges, is_bmp}
use Rattle.enc_front.specs.Ranges.{range_places}
use Rattle.enc_front.specs.Scalars.{is_scalar}

-- the scalar of the first pair with a place
unfoldable pub pair_places : List (ℕ × ℕ) → Places
pair_places pairs place = option_map (λ pair. pair.1) (find (λ pair. pair.0 == place) pairs)

-- the scalars of an index that is made of these pairs
abbrev pub places_of : IndexKind → List (ℕ × ℕ) → Places
places_of kind pairs = if is_ranges kind then range_places pairs else pair_places pairs

-- one of the rows has this place
abbrev pub has_place : List (ℕ × ℕ) → ℕ → Bool
has_place rows place = list_any (λ row. row.0 == place) rows

-- the place of the last row
abbrev pub last_place : List (ℕ × ℕ) → Option ℕ
last_place [] = None
last_place (row ∷ rows) = option_or (last_place rows) (Some row.0)

-- the place is above that of the row before it, or is 0 at the first row
abbrev pub follows : Option ℕ → ℕ → Bool
follows last place = option_map_or (λ before. nat_lt before place) last (place == 0)

-- the place at which a row's run has ended: the next row's, as it states it, or the end of the
-- ranges
abbrev pub run_end : List (ℕ × ℕ) → ℕ
run_end [] = 1237576
run_end (next ∷ rows) = next.0

-- by the range lookup in this row, the place has a number that is no scalar
abbrev pub gets_no_scalar : ℕ × ℕ → ℕ → Bool
gets_no_scalar row place = option_map_or (λ c. not (is_scalar c))
    (range_places (row ∷ []) place) false

-- a place of the row's run, which ends before `end`, gets no scalar
unfoldable pub run_fails : ℕ × ℕ → ℕ → Bool
run_fails row end = list_any (gets_no_scalar row) (range_with_len row.0 (end - row.0))

-- the first reason that stands
abbrev pub first_why : List (Bool × Why) → Option Why
first_why [] = None
first_why (test ∷ tests) = if test.0 then Some test.1 else first_why tests

-- why a row can't stand in ranges, if it follows the one before it or not, and its run fails or not
abbrev pub range_why : Bool → Bool → ℕ × ℕ → Option Why
range_why is_next fails row = first_why (
    (nat_le (place_count Gb18030Ranges) row.0, why.Place)
    ∷ (not is_next, why.Order)
    ∷ (nat_lt row.1 0x80, why.Ascii)
    ∷ (not (is_scalar row.1), why.NotScalar)
    ∷ (fails, why.Run)
    ∷ [])

-- why a row can't stand in an index of another kind, if an earlier row has its place or not
abbrev pub flat_why : IndexKind → Bool → ℕ × ℕ → Option Why
flat_why kind taken row = first_why (
    (nat_le (place_count kind) row.0, why.Place)
    ∷ (taken, why.Twice)
    ∷ (nat_lt row.1 0x80, why.Ascii)
    ∷ (not (is_scalar row.1), why.NotScalar)
    ∷ (is_bmp kind && nat_lt 0xFFFF row.1, why.NotBmp)
    ∷ [])

-- why a row can't stand between the rows before and after it: the first of its reasons
abbrev pub row_why : IndexKind → List (ℕ × ℕ) → ℕ × ℕ → List (ℕ × ℕ) → Option Why
row_why kind before row after =
    if is_ranges kind then range_why (follows (last_place before) row.0)
    (run_fails row (run_end after)) row
    else flat_why kind (has_place before row.0) row

-- the first faulty row of those behind `before`, counted from 0, and its first reason
abbrev pub fault_behind : IndexKind → List (ℕ × ℕ) → List (ℕ × ℕ) → Option (ℕ × Why)
fault_behind kind before [] = None
fault_behind kind before (row ∷ after) =
    option_map_or (λ reason. Some (length before, reason)) (row_why kind before row after)
    (fault_behind kind (before ++ row ∷ []) after)

-- the first faulty row of all, and its first reason
abbrev pub row_fault : IndexKind → List (ℕ × ℕ) → Option (ℕ × Why)
row_fault kind pairs = fault_behind kind [] pairs

-- the places from `low` to before `high` that aren't below a row's get scalars by its number alone,
-- or one doesn't
abbrev pub NumbersAreScalars : ℕ × ℕ → ℕ → ℕ → Type 0
NumbersAreScalars row low high = (place : ℕ) → row.0 ≤ place → low ≤ place → place < high
    → IsTrue (is_scalar (row.1 + (place - row.0)))

pub record SomeNumberFails (row : ℕ × ℕ) (low high : ℕ) : Type 0 where
  pub place : ℕ
  pub behind : row.0 ≤ place
  pub above : low ≤ place
  pub below : place < high
  pub fails : is_scalar (row.1 + (place - row.0)) ≡ false
