-- The units of EUC-KR (Encoding Standard, section 13.1.1, EUC-KR decoder).
use Rattle.std.specs.Prelude.{ℕ, ◌+◌, ◌-◌, ◌*◌, Bool, if◌then◌else◌, List, [], ◌∷◌, ◌/◌, ◌%◌}
use Rattle.std.specs.Prelude.{nat_lt, Some, option_map}
use Rattle.enc_drivers.specs.declared.unit.Item.{Item}
use Rattle.enc_drivers.specs.declared.unit.Item.TheVariants.{Malformed}
use Rattle.enc_drivers.specs.declared.unit.Mode.{Mode}
use Rattle.enc_drivers.specs.Lookup.{Places, least_place}
use Rattle.enc_drivers.specs.Units.{UnitAt}
use Rattle.enc_drivers.specs.Codes.Pairs.{Pairs, is_between, ascii_alone, item_found, pairs_unit}
use Rattle.enc_drivers.specs.Encode.{BytesOf}

-- leads are 81 to FE, trails 41 to FE
abbrev pub is_euc_kr_lead : ℕ → Bool
is_euc_kr_lead byte = is_between 0x81 0xFE byte

abbrev pub is_euc_kr_trail : ℕ → Bool
is_euc_kr_trail byte = is_between 0x41 0xFE byte

-- where a lead and a trail stand in the index: 190 trails a lead
abbrev pub euc_kr_place : ℕ → ℕ → ℕ
euc_kr_place lead trail = (lead - 0x81) * 190 + (trail - 0x41)

abbrev pub euc_kr_both : Places → ℕ → ℕ → Item
euc_kr_both places lead second = if is_euc_kr_trail second
    then item_found (places (euc_kr_place lead second)) else Malformed

abbrev pub euc_kr_pairs : Places → Pairs
euc_kr_pairs places =
    record { is_lead = is_euc_kr_lead; alone = ascii_alone; both = euc_kr_both places }

abbrev pub euc_kr_unit : Places → Mode → List ℕ → UnitAt
euc_kr_unit places = pairs_unit (euc_kr_pairs places)

-- the two bytes of a place (Encoding Standard, section 13.1.2, EUC-KR encoder)
abbrev pub euc_kr_bytes : ℕ → List ℕ
euc_kr_bytes place = (place / 190 + 0x81) ∷ (place % 190 + 0x41) ∷ []

-- the bytes of a scalar: ASCII as it is, and else those of its least place (Encoding Standard,
-- section 13.1.2, EUC-KR encoder)
unfoldable pub euc_kr_bytes_of : Places → BytesOf
euc_kr_bytes_of places scalar =
    if nat_lt scalar 0x80 then Some (scalar ∷ [])
    else option_map euc_kr_bytes (least_place places scalar 23940)
