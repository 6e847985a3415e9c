-- The units of ISO-2022-JP (Encoding Standard, section 12.2.1, ISO-2022-JP decoder).
use Rattle.std.specs.Prelude.{◌≡◌, ◌<◌, ◌≤◌, ℕ, ◌+◌, ◌-◌, ◌*◌, ◌/◌, ◌%◌, Bool, false, ◌==◌, ◌&&◌}
use Rattle.std.specs.Prelude.{◌||◌, nat_le, nat_lt, if◌then◌else◌, List, [], ◌∷◌, Option, Some}
use Rattle.std.specs.Prelude.{None}
use Rattle.enc_drivers.specs.declared.unit.Item.{Item}
use Rattle.enc_drivers.specs.declared.unit.Item.TheVariants.{Malformed, Silent}
use Rattle.enc_drivers.specs.declared.unit.JisSet.{JisSet}
use Rattle.enc_drivers.specs.declared.unit.JisSet.TheVariants.{Ascii, Roman, Katakana, Jis0208}
use Rattle.enc_drivers.specs.declared.unit.Mode.{Mode}
use Rattle.enc_drivers.specs.declared.unit.Mode.TheVariants.{Plain, Within, AfterEscape}
use Rattle.enc_drivers.specs.Units.{UnitAt, malformed_at}
use Rattle.enc_drivers.specs.Lookup.{Places}
use Rattle.enc_drivers.specs.Codes.Sequence.{whole_unit}

-- the set that a mode is in (the standard's decoder state); a stream starts in ASCII
abbrev pub set_of : Mode → JisSet
set_of Plain = Ascii
set_of (Within set) = set
set_of (AfterEscape set) = set

-- what an escape sequence stands for: an error where another stands directly before it (the
-- standard's output flag), and else nothing
abbrev pub escape_item : Mode → Item
escape_item Plain = Silent
escape_item (Within set) = Silent
escape_item (AfterEscape set) = Malformed

-- the set that the two bytes behind 1B name
unfoldable pub escape_set : ℕ → ℕ → Option JisSet
escape_set b c =
    if b == 0x28 && c == 0x42 then Some Ascii
    else (if b == 0x28 && c == 0x4A then Some Roman
    else (if b == 0x28 && c == 0x49 then Some Katakana
    else (if b == 0x24 && (c == 0x40 || c == 0x42) then Some Jis0208
    else None)))

-- the unit of 1B, with the set that the bytes behind it name; where they name none, 1B alone is
-- malformed
abbrev pub escaped : Mode → Option JisSet → UnitAt
escaped mode (Some set) = record { item = escape_item mode; len = 3; next = AfterEscape set }
escaped mode None = malformed_at (Within (set_of mode)) 1

-- 1B, with what is behind it
unfoldable pub escape_unit : Mode → List ℕ → UnitAt
escape_unit mode [] = escaped mode None
escape_unit mode (b ∷ []) = escaped mode None
escape_unit mode (b ∷ c ∷ rest) = escaped mode (escape_set b c)

-- the scalar of one byte in a set whose characters have one
unfoldable pub ascii_scalar : ℕ → Option ℕ
ascii_scalar b =
    if b == 0x0E || b == 0x0F || b == 0x1B then None
    else (if nat_lt b 0x80 then Some b else None)

unfoldable pub roman_scalar : ℕ → Option ℕ
roman_scalar b =
    if b == 0x5C then Some 0xA5
    else (if b == 0x7E then Some 0x203E else ascii_scalar b)

unfoldable pub katakana_scalar : ℕ → Option ℕ
katakana_scalar b = if nat_le 0x21 b && nat_le b 0x5F then Some (0xFF61 + (b - 0x21)) else None

abbrev pub single_scalar : JisSet → ℕ → Option ℕ
single_scalar Ascii b = ascii_scalar b
single_scalar Roman b = roman_scalar b
single_scalar Katakana b = katakana_scalar b
single_scalar Jis0208 b = None

-- ASCII is the set, and the byte is one of it past the controls
pub record IsPlain (mode : Mode) (byte : ℕ) : Type 0 where
  pub set : mode ≡ Within Ascii
  pub past_controls : 0x20 ≤ byte
  pub ascii : byte < 0x80

-- a byte of a scalar of jis0208
abbrev pub in_jis_row : ℕ → Bool
in_jis_row b = nat_le 0x21 b && nat_le b 0x7E

-- a byte that begins a scalar of two bytes
abbrev pub is_jis_lead : JisSet → ℕ → Bool
is_jis_lead Ascii b = false
is_jis_lead Roman b = false
is_jis_lead Katakana b = false
is_jis_lead Jis0208 b = in_jis_row b

-- a lead a, with what is behind it: a second byte, which is not given back where it fails; before
-- an escape and the end the lead alone is malformed
unfoldable pub jis_pair : Places → Mode → ℕ → List ℕ → UnitAt
jis_pair jis0208 next a [] = malformed_at next 1
jis_pair jis0208 next a (b ∷ rest) =
    if b == 0x1B then malformed_at next 1
    else (if in_jis_row b then whole_unit next (jis0208 ((a - 0x21) * 94 + (b - 0x21))) 2
    else malformed_at next 2)

-- a byte a of a set, with what is behind it
unfoldable pub set_unit : Places → JisSet → ℕ → List ℕ → UnitAt
set_unit jis0208 set a rest =
    if is_jis_lead set a then jis_pair jis0208 (Within set) a rest
    else whole_unit (Within set) (single_scalar set a) 1

-- an escape sequence, or a character of the set that the mode is in
unfoldable pub iso_2022_jp_unit : Places → Mode → List ℕ → UnitAt
iso_2022_jp_unit jis0208 mode [] = malformed_at (Within (set_of mode)) 0
iso_2022_jp_unit jis0208 mode (a ∷ rest) =
    if a == 0x1B then escape_unit mode rest
    else set_unit jis0208 (set_of mode) a rest

-- the two bytes of a place of jis0208 (Encoding Standard, section 12.2.2, ISO-2022-JP encoder)
abbrev pub iso_2022_jp_bytes : ℕ → List ℕ
iso_2022_jp_bytes place = (place / 94 + 0x21) ∷ (place % 94 + 0x21) ∷ []
