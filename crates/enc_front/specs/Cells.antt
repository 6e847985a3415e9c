-- The scalars of a flat list of cells, one for each place of an index: a cell without a scalar
-- holds a number that is none.
use Rattle.std.specs.Prelude.{◌≡◌, ℕ, ◌-◌, ◌<◌, nat_lt, slice_index, ◌&&◌, if◌then◌else◌, List, map}
use Rattle.std.specs.Prelude.{Option, Some, None, slice_get}
use Rattle.std.specs.Option.{option_and_then, option_map_or}
use Rattle.enc_handles.specs.Entries.{entry_of}
use Rattle.enc_drivers.specs.Lookup.{Places}
use Rattle.enc_front.specs.Scalars.{is_scalar}

abbrev pub scalar_in : ℕ → Option ℕ
scalar_in cell = if is_scalar cell then Some cell else None

unfoldable pub cell_places : List ℕ → Places
cell_places cells place = option_and_then scalar_in (slice_get cells place)

-- the entry of a cell's scalar, 0 where it has none, or one above U+FFFF
abbrev pub cell_entry : ℕ → ℕ
cell_entry cell = if is_scalar cell && nat_lt cell 0x1_0000 then entry_of cell else 0

abbrev pub cell_entries : List ℕ → List ℕ
cell_entries cells = map cell_entry cells

-- the entry of a byte of an encoding of one byte a scalar: of ASCII as it is, and of 80 to FF by
-- the cells from the first on
abbrev pub byte_entry : List ℕ → ℕ → ℕ
byte_entry cells byte = if nat_lt byte 0x80 then entry_of byte
    else option_map_or cell_entry (slice_get cells (byte - 0x80)) 0

abbrev pub HasByteEntries : List ℕ → List ℕ → Type 0
HasByteEntries cells entries = (byte : ℕ) → byte < 0x100
    → slice_index entries byte ≡ byte_entry cells byte
