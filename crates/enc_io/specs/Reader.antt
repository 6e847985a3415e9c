-- What a reader of a stream's text stands for between two calls.
use Rattle.std.specs.Prelude.{ℕ, ◌+◌, ◌-◌, ◌*◌, ◌<◌, Bool, false, if◌then◌else◌, List, [], ◌++◌}
use Rattle.std.specs.Prelude.{length, None, Some}
use Rattle.std.specs.declared.option.Option.{Option}
use Rattle.enc_front.specs.DecoderCalls.{owed_count}
use Rattle.enc_front.specs.Indexes.{Indexes}
use Rattle.enc_front.specs.Decoder.{DecoderStanding, text_to_come}
use Rattle.enc_io.specs.Options.{Options}
use Rattle.enc_io.specs.Peeker.{PeekerStanding}
use Rattle.enc_io.specs.Peeker as peeker
use Rattle.enc_io.specs.Text.{stream_text}

-- the options and the indexes that it was made with; what it keeps of the stream's front, and
-- whether the encoding is chosen; then its decoder, where an encoding was chosen; text that waits
-- for room; bytes that are to be decoded, and the length of their buffer; how many bytes its source
-- gave; and of the source the bytes left, where it tells them, and its counts of faults and of
-- calls
pub record ReaderStanding : Type 0 where
  pub options : Options
  pub indexes : Indexes
  pub peeker : PeekerStanding
  pub detected : Bool
  pub decoder : Option DecoderStanding
  pub tiny : List ℕ
  pub buffered : List ℕ
  pub buffer : ℕ
  pub taken : ℕ
  pub left : Option (List ℕ)
  pub faults : ℕ
  pub calls : ℕ

-- a reader at the start of a stream
abbrev pub fresh : Options → Indexes → ℕ → Option (List ℕ) → ℕ → ℕ → ReaderStanding
fresh options indexes buffer left faults calls = record {
  options = options;
  indexes = indexes;
  peeker = peeker.fresh options.strip_bom;
  detected = false;
  decoder = None;
  tiny = [];
  buffered = [];
  buffer = buffer;
  taken = 0;
  left = left;
  faults = faults;
  calls = calls;
}

-- what is still to give behind the front of the stream, where these bytes come and then the end:
-- the bytes, or the text that a decoder has still to give; nothing more once it has finished
unfoldable pub still_behind : Option DecoderStanding → List ℕ → List ℕ
still_behind None bytes = bytes
still_behind (Some decoder) bytes = if decoder.finished then [] else text_to_come decoder bytes

-- what is still to give where the source gives these bytes and then ends: what waits; and the text
-- of the stream, of which some bytes were gathered, or what its decoder makes of the bytes that are
-- buffered, those of the front that wait, and these
unfoldable pub still : ReaderStanding → List ℕ → List ℕ
still at rest =
    at.tiny
    ++ (if at.detected then still_behind at.decoder (at.buffered ++ (at.peeker.waiting ++ rest))
    else stream_text at.options at.indexes (at.peeker.gathered ++ rest))

-- the source has ended
abbrev pub has_seen_end : ReaderStanding → Bool
has_seen_end at = at.peeker.ended

-- the source has given more than the limit
abbrev pub HasTooMuch : ReaderStanding → Type 0
HasTooMuch at = at.options.limit < at.taken

-- what a decoder holds and owes
unfoldable pub decoder_number : Option DecoderStanding → ℕ
decoder_number None = 0
decoder_number (Some decoder) = length decoder.place.held + owed_count decoder

-- a number that falls with each byte that is given, whatever the source: the bytes that wait, and
-- three for each byte that is gathered, buffered or held, for U+FFFD where it is owed, and for each
-- byte that the source may still be asked for, one more than the limit in all
unfoldable pub number : ReaderStanding → ℕ
number at =
    length at.tiny
    + 3 * (decoder_number at.decoder + length at.buffered
    + length (if at.detected then at.peeker.waiting else at.peeker.gathered)
    + (at.options.limit + 1 - at.taken))
