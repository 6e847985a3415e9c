-- The units of UTF-16, big-endian where big is true (Encoding Standard, section 14.2.1, shared
-- UTF-16 decoder).
use Rattle.std.specs.Prelude.{ℕ, ◌/◌, ◌%◌, Bool, ◌&&◌, if◌then◌else◌, List, [], ◌∷◌}
use Rattle.std.specs.List.{flat_map}
use Rattle.std.specs.Char.Escape.{encode_utf16}
use Rattle.enc_handles.specs.Utf16.{code_unit, is_lead, is_trail, pair_scalar}
use Rattle.enc_drivers.specs.declared.unit.Mode.{Mode}
use Rattle.enc_drivers.specs.Units.{UnitAt, scalar_at, malformed_at}

-- a code unit that is no leading surrogate: a scalar, or a trailing surrogate without a lead, which
-- is malformed
abbrev pub single_unit : Mode → ℕ → UnitAt
single_unit mode unit = if is_trail unit then malformed_at mode 2 else scalar_at mode unit 2

-- the first code unit, with the second where it is a leading surrogate; what the end cuts is
-- malformed with all that is left
unfoldable pub utf16_unit : Bool → Mode → List ℕ → UnitAt
utf16_unit big mode [] = malformed_at mode 0
utf16_unit big mode (a ∷ []) = malformed_at mode 1
utf16_unit big mode (a ∷ b ∷ []) =
    let first = code_unit big a b in
    if is_lead first then malformed_at mode 2 else single_unit mode first
utf16_unit big mode (a ∷ b ∷ c ∷ []) =
    let first = code_unit big a b in
    if is_lead first then malformed_at mode 3 else single_unit mode first
utf16_unit big mode (a ∷ b ∷ c ∷ d ∷ rest) =
    let first = code_unit big a b in
    let second = code_unit big c d in
    if is_lead first && is_trail second then scalar_at mode (pair_scalar first second) 4
    else (if is_lead first then malformed_at mode 2 else single_unit mode first)

-- the two bytes of a code unit
abbrev pub unit_bytes : Bool → ℕ → List ℕ
unit_bytes big unit = if big then unit / 0x100 ∷ unit % 0x100 ∷ []
    else unit % 0x100 ∷ unit / 0x100 ∷ []

-- the bytes of a scalar in UTF-16 (the Unicode Standard, sections 3.9 and 3.10)
unfoldable pub scalar_bytes : Bool → ℕ → List ℕ
scalar_bytes big scalar = flat_map (unit_bytes big) (encode_utf16 scalar)
