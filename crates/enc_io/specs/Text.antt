-- The text of a stream of bytes (Encoding Standard, section 6: "decode", and section 6.1: "BOM
-- sniff"), under the options of a reader.
use Rattle.std.specs.Prelude.{ℕ, Bool, not, ◌&&◌, ◌||◌, if◌then◌else◌, is_some, List, Some}
use Rattle.std.specs.declared.option.Option.{Option}
use Rattle.std.specs.Option.{option_map_or}
use Rattle.enc_front.specs.declared.encoding.Encoding.{Encoding}
use Rattle.enc_front.specs.declared.encoding.Encoding.TheVariants.{Utf8}
use Rattle.enc_front.specs.Indexes.{Indexes}
use Rattle.enc_front.specs.Marks.{own}
use Rattle.enc_front.specs.Units.{decoded}
use Rattle.enc_io.specs.Marks.{peeked_encoding}
use Rattle.enc_io.specs.Options.{Options}
use Rattle.enc_io.specs.Peeker.{stream_bytes}

-- no mark changes the encoding: marks are not looked for, or an encoding is named and they do not
-- override it
abbrev pub is_settled : Options → Bool
is_settled options = not options.bom_sniffing
    || (is_some options.encoding && not options.bom_override)

-- the encoding that a mark decides: its own, but the named one, if any, for UTF-8's mark where
-- UTF-8 passes as it is
abbrev pub marked_encoding : Options → Encoding → Option Encoding
marked_encoding options Utf8 = if options.utf8_passthru then options.encoding else Some Utf8
marked_encoding options found = Some found

-- the encoding that a stream is read by, if any: that of the mark that begins it, else the named
-- one. A mark counts in a stream of three bytes or more
unfoldable pub chosen : Options → List ℕ → Option Encoding
chosen options bytes =
    if is_settled options then options.encoding
    else option_map_or (marked_encoding options) (peeked_encoding bytes) options.encoding

-- the text of all bytes that a source gives: without an encoding, the bytes; else their text in it,
-- with U+FFFD for each malformed unit. A mark of this encoding is taken off; and before, where
-- marks are to be left out, any mark
unfoldable pub stream_text : Options → Indexes → List ℕ → List ℕ
stream_text options indexes bytes =
    let body = stream_bytes options.strip_bom bytes in
    option_map_or (λ encoding. decoded encoding indexes (own encoding body)) (chosen options bytes)
    body
