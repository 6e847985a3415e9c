-- The units of windows-1252 (Encoding Standard, section 9.1, single-byte decoder, and index
-- windows-1252).
use Rattle.std.specs.Prelude.{ℕ, ◌-◌, ◌&&◌, nat_le, if◌then◌else◌, List, [], ◌∷◌, slice_index, ◌+◌}
use Rattle.std.specs.Prelude.{Some}
use Rattle.enc_drivers.specs.declared.unit.Mode.{Mode}
use Rattle.enc_drivers.specs.Units.{UnitAt, scalar_at, malformed_at}
use Rattle.enc_drivers.specs.Lookup.{Places}
use Rattle.enc_drivers.specs.Encode.{BytesOf}
use Rattle.enc_drivers.specs.Codes.SingleByte.{single_byte_bytes_of}

-- windows-1252 at 80 to 9F, in order (Encoding Standard, index windows-1252)
abbrev pub windows_1252_table : List ℕ
windows_1252_table =
    0x20AC ∷ 0x0081 ∷ 0x201A ∷ 0x0192 ∷ 0x201E ∷ 0x2026 ∷ 0x2020 ∷ 0x2021
    ∷ 0x02C6 ∷ 0x2030 ∷ 0x0160 ∷ 0x2039 ∷ 0x0152 ∷ 0x008D ∷ 0x017D ∷ 0x008F
    ∷ 0x0090 ∷ 0x2018 ∷ 0x2019 ∷ 0x201C ∷ 0x201D ∷ 0x2022 ∷ 0x2013 ∷ 0x2014
    ∷ 0x02DC ∷ 0x2122 ∷ 0x0161 ∷ 0x203A ∷ 0x0153 ∷ 0x009D ∷ 0x017E ∷ 0x0178 ∷ []

-- the scalar of a byte in windows-1252: from the table at 80 to 9F, else the byte's number
unfoldable pub windows_1252_scalar : ℕ → ℕ
windows_1252_scalar b = if nat_le 0x80 b && nat_le b 0x9F
    then slice_index windows_1252_table (b - 0x80) else b

-- the scalar of the first byte
unfoldable pub windows_1252_unit : Mode → List ℕ → UnitAt
windows_1252_unit mode [] = malformed_at mode 0
windows_1252_unit mode (b ∷ rest) = scalar_at mode (windows_1252_scalar b) 1

-- the scalars of 80 to FF by place, as an index has them
abbrev pub windows_1252_places : Places
windows_1252_places place = Some (windows_1252_scalar (place + 0x80))

-- the byte of a scalar (Encoding Standard, section 9.2, single-byte encoder)
abbrev pub windows_1252_bytes_of : BytesOf
windows_1252_bytes_of = single_byte_bytes_of windows_1252_places
