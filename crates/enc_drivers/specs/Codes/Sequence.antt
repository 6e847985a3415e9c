-- What the decoders of several bytes a scalar share (Encoding Standard, sections 10.2.1 and
-- 12.1.1): a sequence that was read to its last byte is its scalar or an error, and most errors
-- give an ASCII byte back that ends them.
use Rattle.std.specs.Prelude.{ℕ, ◌-◌, nat_lt, if◌then◌else◌, Option, Some, None}
use Rattle.enc_drivers.specs.declared.unit.Mode.{Mode}
use Rattle.enc_drivers.specs.Units.{UnitAt, scalar_at, malformed_at}

-- n bytes with the scalar that they have, or malformed as a whole
abbrev pub whole_unit : Mode → Option ℕ → ℕ → UnitAt
whole_unit mode (Some scalar) n = scalar_at mode scalar n
whole_unit mode None n = malformed_at mode n

-- n bytes, of which the last is b, with the scalar that they have; without one they are malformed,
-- but for b where it is ASCII
abbrev pub sequence_unit : Mode → Option ℕ → ℕ → ℕ → UnitAt
sequence_unit mode (Some scalar) n b = scalar_at mode scalar n
sequence_unit mode None n b = malformed_at mode (if nat_lt b 0x80 then n - 1 else n)
