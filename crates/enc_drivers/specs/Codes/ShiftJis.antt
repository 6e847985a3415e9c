-- The units of Shift_JIS (Encoding Standard, section 12.3.1, Shift_JIS decoder).
use Rattle.std.specs.Prelude.{ℕ, ◌+◌, ◌-◌, ◌*◌, ◌||◌, nat_le, nat_lt, Bool, if◌then◌else◌, List, []}
use Rattle.std.specs.Prelude.{◌∷◌, ◌/◌, ◌%◌}
use Rattle.enc_drivers.specs.declared.unit.Item.{Item}
use Rattle.enc_drivers.specs.declared.unit.Item.TheVariants.{One, Malformed}
use Rattle.enc_drivers.specs.declared.unit.Mode.{Mode}
use Rattle.enc_drivers.specs.Lookup.{Places}
use Rattle.enc_drivers.specs.Units.{UnitAt}
use Rattle.enc_drivers.specs.Codes.Pairs.{Pairs, is_between, item_found, pairs_unit}

-- leads are 81 to 9F and E0 to FC, trails 40 to 7E and 80 to FC
abbrev pub is_shift_jis_lead : ℕ → Bool
is_shift_jis_lead byte = is_between 0x81 0x9F byte || is_between 0xE0 0xFC byte

abbrev pub is_shift_jis_trail : ℕ → Bool
is_shift_jis_trail byte = is_between 0x40 0x7E byte || is_between 0x80 0xFC byte

-- where a lead and a trail stand in index jis0208: 188 trails a lead, without a gap
abbrev pub shift_jis_place : ℕ → ℕ → ℕ
shift_jis_place lead trail =
    (lead - (if nat_lt lead 0xA0 then 0x81 else 0xC1)) * 188
    + (trail - (if nat_lt trail 0x7F then 0x40 else 0x41))

-- places 8836 to 10715 are private use, from U+E000 on; the others are the index's
unfoldable pub shift_jis_at : Places → ℕ → Item
shift_jis_at places place = if is_between 8836 10715 place then One (0xE000 + (place - 8836))
    else item_found (places place)

-- ASCII and 80 as they are, A1 to DF the half-width katakana from U+FF61 on
unfoldable pub shift_jis_alone : ℕ → Item
shift_jis_alone byte =
    if nat_le byte 0x80 then One byte
    else (if is_between 0xA1 0xDF byte then One (0xFF61 + (byte - 0xA1)) else Malformed)

abbrev pub shift_jis_both : Places → ℕ → ℕ → Item
shift_jis_both places lead second = if is_shift_jis_trail second
    then shift_jis_at places (shift_jis_place lead second) else Malformed

abbrev pub shift_jis_pairs : Places → Pairs
shift_jis_pairs places =
    record { is_lead = is_shift_jis_lead; alone = shift_jis_alone; both = shift_jis_both places }

abbrev pub shift_jis_unit : Places → Mode → List ℕ → UnitAt
shift_jis_unit places = pairs_unit (shift_jis_pairs places)

-- the two bytes of a place (Encoding Standard, section 12.3.2, Shift_JIS encoder)
abbrev pub shift_jis_bytes : ℕ → List ℕ
shift_jis_bytes place =
    (place / 188 + (if nat_lt (place / 188) 0x1F then 0x81 else 0xC1))
    ∷ (place % 188 + (if nat_lt (place % 188) 0x3F then 0x40 else 0x41)) ∷ []
