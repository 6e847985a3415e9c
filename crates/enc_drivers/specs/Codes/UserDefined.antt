-- The units of x-user-defined (Encoding Standard, section 14.5.1, x-user-defined decoder).
use Rattle.std.specs.Prelude.{ℕ, ◌+◌, ◌-◌, nat_lt, if◌then◌else◌, List, [], ◌∷◌, ◌&&◌, nat_le, Some}
use Rattle.std.specs.Prelude.{None}
use Rattle.enc_drivers.specs.declared.unit.Mode.{Mode}
use Rattle.enc_drivers.specs.Units.{UnitAt, scalar_at, malformed_at}
use Rattle.enc_drivers.specs.Encode.{BytesOf}

-- the scalar of a byte in x-user-defined: ASCII as it is, 80 to FF at U+F780 to U+F7FF
unfoldable pub user_defined_scalar : ℕ → ℕ
user_defined_scalar b = if nat_lt b 0x80 then b else 0xF780 + (b - 0x80)

-- the scalar of the first byte
unfoldable pub user_defined_unit : Mode → List ℕ → UnitAt
user_defined_unit mode [] = malformed_at mode 0
user_defined_unit mode (b ∷ rest) = scalar_at mode (user_defined_scalar b) 1

-- the byte of a scalar: ASCII as it is, and 80 to FF of U+F780 to U+F7FF (Encoding Standard,
-- section 14.5.2, x-user-defined encoder)
unfoldable pub user_defined_bytes_of : BytesOf
user_defined_bytes_of scalar =
    if nat_lt scalar 0x80 then Some (scalar ∷ [])
    else (if nat_le 0xF780 scalar && nat_le scalar 0xF7FF then Some ((scalar - 0xF780 + 0x80) ∷ [])
    else None)
