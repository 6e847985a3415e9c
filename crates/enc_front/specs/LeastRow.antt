-- The least place of a scalar in the ranges of gb18030, by the rows in their order.
use Rattle.std.specs.Prelude.{◌≡◌, ℕ, ◌+◌, ◌-◌, ◌<◌, ◌≤◌, ◌==◌, nat_lt, min, true, false}
use Rattle.std.specs.Prelude.{if◌then◌else◌, List, Option, Some, None}
use Rattle.enc_drivers.specs.Lookup.{holds}
use Rattle.enc_front.specs.Ranges.{is_outside, range_places}

-- a place in the run of a row, which ends before `end`, that has the scalar by the row's number
pub record HasPlaceIn (row : ℕ × ℕ) (end scalar place : ℕ) : Type 0 where
  pub behind : row.0 ≤ place
  pub below : place < end
  pub inside : is_outside place ≡ false
  pub other : (place == 7457) ≡ false
  pub number : row.1 + (place - row.0) ≡ scalar

-- this place, or that there is none
abbrev pub IsPlaceIn : ℕ × ℕ → ℕ → ℕ → Option ℕ → Type 0
IsPlaceIn row end scalar (Some place) = HasPlaceIn row end scalar place
IsPlaceIn row end scalar None =
    (place : ℕ) → row.0 ≤ place → place < end → is_outside place ≡ false → (place == 7457) ≡ false
    → row.1 + (place - row.0) ≡ scalar → ⊥

-- no place before `end` but 7457 has the scalar
abbrev pub NoneBefore : List (ℕ × ℕ) → ℕ → ℕ → Type 0
NoneBefore rows scalar end = (place : ℕ) → place < end → (place == 7457) ≡ false
    → holds (range_places rows) scalar place ≡ false

-- the least place but 7457 that has the scalar, or that there is none
abbrev pub IsLeastByRows : List (ℕ × ℕ) → ℕ → Option ℕ → Type 0
IsLeastByRows rows scalar (Some place) = (holds (range_places rows) scalar place ≡ true)
    × NoneBefore rows scalar place
IsLeastByRows rows scalar None = NoneBefore rows scalar 1237576

-- with place 7457, which has U+E7C7 whatever the rows
abbrev pub with_7457 : Option ℕ → ℕ → Option ℕ
with_7457 None scalar = if scalar == 0xE7C7 then Some 7457 else None
with_7457 (Some place) scalar = if scalar == 0xE7C7 then Some (min place 7457) else Some place

-- a place, if it is below another
abbrev pub under : Option ℕ → ℕ → Option ℕ
under None below = None
under (Some place) below = if nat_lt place below then Some place else None
