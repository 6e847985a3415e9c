-- The units of gb18030, whose decoder is GBK's too (Encoding Standard, section 10.2.1, gb18030
-- decoder; section 10.1.1).
use Rattle.std.specs.Prelude.{ℕ, ◌+◌, ◌-◌, ◌*◌, ◌/◌, ◌%◌, Bool, ◌==◌, ◌&&◌, ◌||◌, nat_le, nat_lt}
use Rattle.std.specs.Prelude.{if◌then◌else◌, List, [], ◌∷◌, Option, None, Some, option_map}
use Rattle.enc_drivers.specs.declared.unit.Mode.{Mode}
use Rattle.enc_drivers.specs.Units.{UnitAt, scalar_at, malformed_at}
use Rattle.enc_drivers.specs.Lookup.{Places, least_place}
use Rattle.enc_drivers.specs.Codes.Sequence.{whole_unit, sequence_unit}
use Rattle.enc_drivers.specs.Encode.{BytesOf}

-- a byte that stands first of two or four, or third of four
abbrev pub is_gb18030_lead : ℕ → Bool
is_gb18030_lead b = nat_le 0x81 b && nat_le b 0xFE

-- a byte that stands second or fourth of four
abbrev pub is_gb18030_digit : ℕ → Bool
is_gb18030_digit b = nat_le 0x30 b && nat_le b 0x39

-- a byte that stands second of two
abbrev pub is_gb18030_trail : ℕ → Bool
is_gb18030_trail b = nat_le 0x40 b && nat_le b 0x7E || nat_le 0x80 b && nat_le b 0xFE

-- the scalar of two bytes, by the index
unfoldable pub gb18030_scalar : Places → ℕ → ℕ → Option ℕ
gb18030_scalar index a b =
    if is_gb18030_trail b
    then index ((a - 0x81) * 190 + (b - (if nat_lt b 0x7F then 0x40 else 0x41)))
    else None

-- the place of four bytes, for the range lookup
unfoldable pub ranges_place : ℕ → ℕ → ℕ → ℕ → ℕ
ranges_place a b c d = (a - 0x81) * 12600 + (b - 0x30) * 1260 + (c - 0x81) * 10 + (d - 0x30)

-- three bytes of a sequence of four, with what is behind them: without a fourth byte that fits, the
-- first alone is malformed
unfoldable pub gb18030_fourth : Places → Mode → ℕ → ℕ → ℕ → List ℕ → UnitAt
gb18030_fourth ranges mode a b c [] = malformed_at mode 3
gb18030_fourth ranges mode a b c (d ∷ rest) =
    if is_gb18030_digit d then whole_unit mode (ranges (ranges_place a b c d)) 4
    else malformed_at mode 1

-- two bytes of a sequence of four, with what is behind them: the same for the third byte
unfoldable pub gb18030_third : Places → Mode → ℕ → ℕ → List ℕ → UnitAt
gb18030_third ranges mode a b [] = malformed_at mode 2
gb18030_third ranges mode a b (c ∷ rest) =
    if is_gb18030_lead c then gb18030_fourth ranges mode a b c rest
    else malformed_at mode 1

-- a lead a, with what is behind it
unfoldable pub gb18030_sequence : Places → Places → Mode → ℕ → List ℕ → UnitAt
gb18030_sequence index ranges mode a [] = malformed_at mode 1
gb18030_sequence index ranges mode a (b ∷ rest) =
    if is_gb18030_digit b then gb18030_third ranges mode a b rest
    else sequence_unit mode (gb18030_scalar index a b) 2 b

-- ASCII as it is, 80 is the euro sign, a sequence behind a lead, and FF malformed; what the end
-- cuts is malformed with all that is left
unfoldable pub gb18030_unit : Places → Places → Mode → List ℕ → UnitAt
gb18030_unit index ranges mode [] = malformed_at mode 0
gb18030_unit index ranges mode (a ∷ rest) =
    if nat_lt a 0x80 then scalar_at mode a 1
    else (if a == 0x80 then scalar_at mode 0x20AC 1
    else (if is_gb18030_lead a then gb18030_sequence index ranges mode a rest
    else malformed_at mode 1))

-- the two bytes of a place of the index, and the four of a place of the ranges (Encoding Standard,
-- section 10.2.2, gb18030 encoder)
abbrev pub gb18030_bytes : ℕ → List ℕ
gb18030_bytes place =
    (place / 190 + 0x81) ∷ (place % 190 + (if nat_lt (place % 190) 0x3F then 0x40 else 0x41)) ∷ []

abbrev pub ranges_bytes : ℕ → List ℕ
ranges_bytes place = (place / 12600 + 0x81) ∷ (place % 12600 / 1260 + 0x30)
    ∷ (place % 1260 / 10 + 0x81) ∷ (place % 10 + 0x30) ∷ []

-- the bytes of a scalar by its place in the index; without one gb18030 has the bytes of the least
-- place of the ranges, and GBK none
abbrev pub gb18030_place_bytes : Bool → Places → ℕ → Option ℕ → Option (List ℕ)
gb18030_place_bytes gbk ranges scalar (Some place) = Some (gb18030_bytes place)
gb18030_place_bytes gbk ranges scalar None = if gbk then None
    else option_map ranges_bytes (least_place ranges scalar 1237576)

-- the bytes of a scalar, in GBK where `gbk` is true: ASCII as it is, none of U+E5E5, in GBK 80 of
-- the euro sign, and else by the index and the ranges (Encoding Standard, section 10.2.2, gb18030
-- encoder)
unfoldable pub gb18030_bytes_of : Bool → Places → Places → BytesOf
gb18030_bytes_of gbk index ranges scalar =
    if nat_lt scalar 0x80 then Some (scalar ∷ [])
    else (if scalar == 0xE5E5 then None
    else (if gbk && scalar == 0x20AC then Some (0x80 ∷ [])
    else gb18030_place_bytes gbk ranges scalar (least_place index scalar 23940)))
