-- What a decoder stands for between two calls: the units and the text that are still to come.
use Rattle.std.specs.Prelude.{ℕ, Bool, if◌then◌else◌, List, [], ◌++◌}
use Rattle.std.specs.Option.{option_map_or}
use Rattle.enc_drivers.specs.declared.unit.Item.{Item}
use Rattle.enc_drivers.specs.declared.unit.Mode.{Mode}
use Rattle.enc_drivers.specs.Units.{units}
use Rattle.enc_front.specs.declared.encoding.Encoding.{Encoding}
use Rattle.enc_front.specs.Indexes.{Indexes}
use Rattle.enc_front.specs.Marks.{mark, without_mark, own}
use Rattle.enc_front.specs.Output.{Output, utf_8, replacement_in, text_as}
use Rattle.enc_front.specs.Units.{unit}

-- which byte order mark is removed at the front of what a decoder holds and what comes: any, its
-- encoding's own, or none, as behind the start
pub data Marks : Type 0 where
  any_mark : Marks
  own_mark : Marks
  no_mark : Marks

-- where a decoder is in its stream: its indexes and its encoding, which mark is removed, bytes that
-- were read and not decoded yet, and their mode
pub record DecoderPlace : Type 0 where
  pub indexes : Indexes
  pub encoding : Encoding
  pub marks : Marks
  pub held : List ℕ
  pub mode : Mode

-- what a decoder keeps between two calls: its place, whether U+FFFD has to be written first, and
-- whether the stream has ended
pub record DecoderStanding : Type 0 where
  pub place : DecoderPlace
  pub owes : Bool
  pub finished : Bool

-- the encoding that bytes are decoded by, and the bytes without their mark (Encoding Standard,
-- section 6: "decode", and "UTF-8 decode" for an own mark; section 7.1, "serialize I/O queue", for
-- own marks of UTF-16 too)
unfoldable pub past_mark : Marks → Encoding → List ℕ → Encoding × List ℕ
past_mark any_mark encoding bytes =
    (option_map_or (λ m. m.0) (mark bytes) encoding, without_mark bytes)
past_mark own_mark encoding bytes = (encoding, own encoding bytes)
past_mark no_mark encoding bytes = (encoding, bytes)

-- the units of bytes without their mark
abbrev pub units_past_mark : Indexes → Mode → Encoding × List ℕ → List (Item × ℕ)
units_past_mark indexes mode rest = units (unit rest.0 indexes) mode rest.1

-- the units that are still to come where these bytes come and then the end
abbrev pub to_come : DecoderPlace → List ℕ → List (Item × ℕ)
to_come at bytes = units_past_mark at.indexes at.mode
    (past_mark at.marks at.encoding (at.held ++ bytes))

-- the encoding that the stream is decoded by where these bytes come and then the end
abbrev pub encoding_to_come : DecoderPlace → List ℕ → Encoding
encoding_to_come at bytes = (past_mark at.marks at.encoding (at.held ++ bytes)).0

-- U+FFFD where it is owed, in what is written
abbrev pub owed_in : Output → DecoderStanding → List ℕ
owed_in output at = if at.owes then replacement_in output else []

-- the text that is still to come where these bytes come and then the end
abbrev pub text_to_come_in : Output → DecoderStanding → List ℕ → List ℕ
text_to_come_in output at bytes = owed_in output at ++ text_as output (to_come at.place bytes)

-- the same in UTF-8
abbrev pub owed : DecoderStanding → List ℕ
owed at = owed_in utf_8 at

abbrev pub text_to_come : DecoderStanding → List ℕ → List ℕ
text_to_come at bytes = text_to_come_in utf_8 at bytes
