-- The units of EUC-JP (Encoding Standard, section 12.1.1, EUC-JP decoder).
use Rattle.std.specs.Prelude.{ℕ, ◌+◌, ◌-◌, ◌*◌, ◌/◌, ◌%◌, Bool, ◌==◌, ◌&&◌, ◌||◌, nat_le, nat_lt}
use Rattle.std.specs.Prelude.{if◌then◌else◌, List, [], ◌∷◌, Option, Some, None, option_map}
use Rattle.enc_drivers.specs.declared.unit.Mode.{Mode}
use Rattle.enc_drivers.specs.Units.{UnitAt, scalar_at, malformed_at}
use Rattle.enc_drivers.specs.Lookup.{Places, least_place}
use Rattle.enc_drivers.specs.Codes.Sequence.{sequence_unit}
use Rattle.enc_drivers.specs.Encode.{BytesOf}

-- a byte of a scalar of an index of 94 rows
abbrev pub in_row : ℕ → Bool
in_row b = nat_le 0xA1 b && nat_le b 0xFE

-- a byte that begins a sequence
abbrev pub is_euc_jp_lead : ℕ → Bool
is_euc_jp_lead b = b == 0x8E || b == 0x8F || in_row b

-- the scalar of two bytes in an index of 94 rows of 94 places
unfoldable pub row_scalar : Places → ℕ → ℕ → Option ℕ
row_scalar places a b = if in_row a && in_row b then places ((a - 0xA1) * 94 + (b - 0xA1)) else None

-- the scalar of two bytes: half-width katakana behind 8E, and else by jis0208
unfoldable pub euc_jp_scalar : Places → ℕ → ℕ → Option ℕ
euc_jp_scalar jis0208 a b =
    if a == 0x8E && (nat_le 0xA1 b && nat_le b 0xDF) then Some (0xFF61 + (b - 0xA1))
    else row_scalar jis0208 a b

-- 8F and a byte b of a row, with what is behind these: a third byte, by jis0212
unfoldable pub jis0212_unit : Places → Mode → ℕ → List ℕ → UnitAt
jis0212_unit jis0212 mode b [] = malformed_at mode 2
jis0212_unit jis0212 mode b (c ∷ rest) = sequence_unit mode (row_scalar jis0212 b c) 3 c

-- a lead a, with what is behind it
unfoldable pub euc_jp_sequence : Places → Places → Mode → ℕ → List ℕ → UnitAt
euc_jp_sequence jis0208 jis0212 mode a [] = malformed_at mode 1
euc_jp_sequence jis0208 jis0212 mode a (b ∷ rest) =
    if a == 0x8F && in_row b then jis0212_unit jis0212 mode b rest
    else sequence_unit mode (euc_jp_scalar jis0208 a b) 2 b

-- ASCII as it is, a sequence behind a lead, and any other byte malformed; what the end cuts is
-- malformed with all that is left
unfoldable pub euc_jp_unit : Places → Places → Mode → List ℕ → UnitAt
euc_jp_unit jis0208 jis0212 mode [] = malformed_at mode 0
euc_jp_unit jis0208 jis0212 mode (a ∷ rest) =
    if nat_lt a 0x80 then scalar_at mode a 1
    else (if is_euc_jp_lead a then euc_jp_sequence jis0208 jis0212 mode a rest
    else malformed_at mode 1)

-- the last two bytes of a place of either index (Encoding Standard, section 12.1.2, EUC-JP encoder)
abbrev pub euc_jp_bytes : ℕ → List ℕ
euc_jp_bytes place = (place / 94 + 0xA1) ∷ (place % 94 + 0xA1) ∷ []

-- the minus sign is written as the full-width hyphen-minus
abbrev pub minus_as_hyphen : ℕ → ℕ
minus_as_hyphen scalar = if scalar == 0x2212 then 0xFF0D else scalar

-- the bytes of a scalar: ASCII, the yen sign, the overline and half-width katakana by number, and
-- else those of the least place of jis0208 (Encoding Standard, section 12.1.2, EUC-JP encoder)
unfoldable pub euc_jp_bytes_of : Places → BytesOf
euc_jp_bytes_of jis0208 scalar =
    if nat_lt scalar 0x80 then Some (scalar ∷ [])
    else (if scalar == 0xA5 then Some (0x5C ∷ [])
    else (if scalar == 0x203E then Some (0x7E ∷ [])
    else (if nat_le 0xFF61 scalar && nat_le scalar 0xFF9F
    then Some (0x8E ∷ (scalar - 0xFF61 + 0xA1) ∷ [])
    else option_map euc_jp_bytes (least_place jis0208 (minus_as_hyphen scalar) 8836))))
