-- What a decoder writes: UTF-8, or UTF-16 (Encoding Standard, section 4.1: the scalars of the units
-- in order).
use Rattle.std.specs.Prelude.{ℕ, List, [], ◌∷◌, encode_utf8}
use Rattle.std.specs.Char.Escape.{encode_utf16}
use Rattle.enc_drivers.specs.declared.unit.Item.{Item}
use Rattle.enc_drivers.specs.Resume.{text_in}
use Rattle.enc_drivers.specs.Units.{text, replacement}

pub data Output : Type 0 where
  utf_8 : Output
  utf_16 : Output

-- the elements of a scalar: bytes, or code units
abbrev pub form_of : Output → ℕ → List ℕ
form_of utf_8 = encode_utf8
form_of utf_16 = encode_utf16

-- room that any scalar, and any two of one unit, fit in
abbrev pub room_in : Output → ℕ
room_in utf_8 = 4
room_in utf_16 = 2

-- U+FFFD, which stands for a malformed unit
abbrev pub replacement_in : Output → List ℕ
replacement_in utf_8 = replacement
replacement_in utf_16 = 0xFFFD ∷ []

-- the text of units, in order
abbrev pub text_as : Output → List (Item × ℕ) → List ℕ
text_as utf_8 us = text us
text_as utf_16 us = text_in encode_utf16 us
