-- The range lookup of gb18030 (Encoding Standard, section 5, "index gb18030 ranges code point").
use Rattle.std.specs.Prelude.{ℕ, ◌+◌, ◌-◌, ◌==◌, nat_le, nat_lt, Bool, ◌&&◌, ◌||◌, if◌then◌else◌}
use Rattle.std.specs.Prelude.{List, [], ◌∷◌, Option, Some, None}
use Rattle.std.specs.Option.{option_map, option_or}
use Rattle.enc_drivers.specs.Lookup.{Places}

-- the last row whose place isn't above the given one, of rows of a run's first place and its scalar
abbrev pub row_of : List (ℕ × ℕ) → ℕ → Option (ℕ × ℕ)
row_of [] place = None
row_of (row ∷ rows) place = option_or (row_of rows place) (if nat_le row.0 place then Some row
    else None)

-- places without a scalar: those between the two parts of the ranges, and those above the last
abbrev pub is_outside : ℕ → Bool
is_outside place = (nat_le 39420 place && nat_lt place 189000) || nat_lt 1237575 place

-- 7457 has U+E7C7; any other place has the scalar of the last row whose place isn't above it, plus
-- the difference of the places
unfoldable pub range_places : List (ℕ × ℕ) → Places
range_places rows place =
    if is_outside place then None
    else (if place == 7457 then Some 0xE7C7
    else option_map (λ row. row.1 + (place - row.0)) (row_of rows place))
