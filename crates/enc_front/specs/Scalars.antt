-- Scalar values (Unicode Standard, D76): what an index may have.
use Rattle.std.specs.Prelude.{ℕ, nat_le, nat_lt, Bool, true, ◌&&◌, if◌then◌else◌}

-- up to 10FFFF, and no surrogate
abbrev pub is_scalar : ℕ → Bool
is_scalar c = if nat_lt c 0xD800 then true else (nat_le 0xE000 c && nat_lt c 0x110000)
