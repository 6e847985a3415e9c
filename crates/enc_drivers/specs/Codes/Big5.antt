-- The units of Big5 (Encoding Standard, section 11.1.1, Big5 decoder).
use Rattle.std.specs.Prelude.{ℕ, ◌+◌, ◌-◌, ◌*◌, ◌==◌, ◌||◌, nat_lt, Bool, if◌then◌else◌, List, []}
use Rattle.std.specs.Prelude.{◌∷◌, ◌/◌, ◌%◌}
use Rattle.enc_drivers.specs.declared.unit.Item.{Item}
use Rattle.enc_drivers.specs.declared.unit.Item.TheVariants.{Two, Malformed}
use Rattle.enc_drivers.specs.declared.unit.Mode.{Mode}
use Rattle.enc_drivers.specs.Lookup.{Places}
use Rattle.enc_drivers.specs.Units.{UnitAt}
use Rattle.enc_drivers.specs.Codes.Pairs.{Pairs, is_between, ascii_alone, item_found, pairs_unit}

-- leads are 81 to FE, trails 40 to 7E and A1 to FE
abbrev pub is_big5_lead : ℕ → Bool
is_big5_lead byte = is_between 0x81 0xFE byte

abbrev pub is_big5_trail : ℕ → Bool
is_big5_trail byte = is_between 0x40 0x7E byte || is_between 0xA1 0xFE byte

-- where a lead and a trail stand in the index: 157 trails a lead, without a gap
abbrev pub big5_place : ℕ → ℕ → ℕ
big5_place lead trail = (lead - 0x81) * 157 + (trail - (if nat_lt trail 0x7F then 0x40 else 0x62))

-- four places are a letter and a combining mark, whatever the index holds there; the others are the
-- index's
unfoldable pub big5_at : Places → ℕ → Item
big5_at places place =
    if place == 1133 then Two 0xCA 0x304
    else (if place == 1135 then Two 0xCA 0x30C
    else (if place == 1164 then Two 0xEA 0x304
    else (if place == 1166 then Two 0xEA 0x30C
    else item_found (places place))))

abbrev pub big5_both : Places → ℕ → ℕ → Item
big5_both places lead second = if is_big5_trail second then big5_at places (big5_place lead second)
    else Malformed

abbrev pub big5_pairs : Places → Pairs
big5_pairs places = record { is_lead = is_big5_lead; alone = ascii_alone; both = big5_both places }

abbrev pub big5_unit : Places → Mode → List ℕ → UnitAt
big5_unit places = pairs_unit (big5_pairs places)

-- the two bytes of a place (Encoding Standard, section 11.1.2, Big5 encoder)
abbrev pub big5_bytes : ℕ → List ℕ
big5_bytes place = (place / 157 + 0x81)
    ∷ (place % 157 + (if nat_lt (place % 157) 0x3F then 0x40 else 0x62)) ∷ []
