-- The units of an encoding of one byte a scalar with an index (Encoding Standard, section 9.1,
-- single-byte decoder).
use Rattle.std.specs.Prelude.{◌≡◌, ℕ, ◌+◌, ◌-◌, ◌<◌, nat_lt, if◌then◌else◌, List, [], ◌∷◌, Some}
use Rattle.std.specs.Prelude.{map, option_map, slice_index}
use Rattle.std.specs.Simd.Lanes.{Each1}
use Rattle.std.specs.Option.{option_map_or}
use Rattle.enc_drivers.specs.declared.unit.Item.{Item}
use Rattle.enc_drivers.specs.declared.unit.Item.TheVariants.{One, Malformed}
use Rattle.enc_drivers.specs.declared.unit.Mode.{Mode}
use Rattle.enc_drivers.specs.Lookup.{Places, least_place}
use Rattle.enc_drivers.specs.Units.{UnitAt, malformed_at}
use Rattle.enc_drivers.specs.Encode.{BytesOf}

-- ASCII as it is; 80 to FF by the index, at the places from 0 on, and malformed where it has no
-- scalar there
unfoldable pub single_byte_item : Places → ℕ → Item
single_byte_item places b = if nat_lt b 0x80 then One b
    else option_map_or (λ c. One c) (places (b - 0x80)) Malformed

unfoldable pub single_byte_unit : Places → Mode → List ℕ → UnitAt
single_byte_unit places mode [] = malformed_at mode 0
single_byte_unit places mode (b ∷ rest) =
    record { item = single_byte_item places b; len = 1; next = mode }

-- the byte of a scalar: ASCII as it is, and else the least from 80 on that stands for it (Encoding
-- Standard, section 9.2, single-byte encoder)
unfoldable pub single_byte_bytes_of : Places → BytesOf
single_byte_bytes_of places scalar =
    if nat_lt scalar 0x80 then Some (scalar ∷ [])
    else option_map (λ place. (place + 0x80) ∷ []) (least_place places scalar 128)

-- of each byte its number in a table, which isn't 0
pub record TellsEach (table bytes numbers : List ℕ) : Type 0 where
  pub numbers_are : numbers ≡ map (λ b. slice_index table b) bytes
  pub some : Each1 (λ number. 0 < number) numbers
