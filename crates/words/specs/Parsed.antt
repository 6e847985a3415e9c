-- Words whose charsets and encodings are found, and their texts.
use Rattle.std.specs.Prelude.{◌≡◌, ℕ, Option, Result, Ok, Err, List, map, IsTrue, IfSome}
use Rattle.std.specs.Option.{option_map, option_map_or}
use Rattle.enc_front.specs.declared.encoding.Encoding as front
use Rattle.enc_front.specs.Indexes.{Indexes, known}
use Rattle.enc_front.specs.Charset as charsets
use Rattle.enc_front.specs.Charset.{charset, marked_text, ascii_text}
use Rattle.words.specs.declared.parser.Encoding.{Encoding}
use Rattle.words.specs.declared.parser.ParserError.{ParserError}
use Rattle.words.specs.declared.parser.ParsedEncodedWord.{ParsedEncodedWord}
use Rattle.words.specs.declared.parser.ParsedEncodedWord.TheVariants as variant
use Rattle.words.specs.declared.parser.ParsedSlice.{ParsedSlice}
use Rattle.words.specs.declared.parser.LastCharset.{LastCharset}
use Rattle.words.specs.declared.parser.ParsedSlice.TheVariants as slice
use Rattle.words.specs.Word.{Word}
use Rattle.words.specs.Reading.{Part, Encoded, Clear, Gap}
use Rattle.words.specs.Encoding.{encoding_of}
use Rattle.words.specs.Joined.{join_lists, one_element}
use Rattle.words.specs.Header.{Text, clear_text, value_of, shown_value}

-- a token after parsing: clear text, or a word by its charset, if that is known, its encoding and
-- its text
pub data Parsed : Type 0 where
  ParsedClear : List ℕ → Parsed
  ParsedWord : Option front.Encoding → Encoding → List ℕ → Parsed

-- what a parsed word shows
abbrev pub parsed_of : ParsedEncodedWord → Parsed
parsed_of (variant.ClearText text) = ParsedClear text.items
parsed_of (variant.EncodedWord found encoding text) =
    ParsedWord (option_map charsets.encoding_of found) encoding text.items

-- the charset of a parsed word is one that the indexes have
abbrev pub IsKnown : Indexes → ParsedEncodedWord → Type 0
IsKnown indexes (variant.ClearText text) = Unit {0}
IsKnown indexes (variant.EncodedWord found encoding text) =
    IfSome found (λ charset. IsTrue (known (charsets.encoding_of charset) indexes))

-- what a parsed word shows, where its text stands in the header
abbrev pub sliced_of : ParsedSlice → Parsed
sliced_of (slice.ClearText text) = ParsedClear text.now
sliced_of (slice.EncodedWord found encoding text) =
    ParsedWord (option_map charsets.encoding_of found) encoding text.now

-- the charset of that is one that the indexes have
abbrev pub IsKnownSlice : Indexes → ParsedSlice → Type 0
IsKnownSlice indexes (slice.ClearText text) = Unit {0}
IsKnownSlice indexes (slice.EncodedWord found encoding text) =
    IfSome found (λ charset. IsTrue (known (charsets.encoding_of charset) indexes))

-- the charset is that of the label, where the indexes have it
pub record IsCharset (indexes : Indexes) (last : LastCharset) : Type 0 where
  pub encoding : option_map charsets.encoding_of last.charset ≡ charset last.label.now indexes
  pub known : IfSome last.charset (λ found. IsTrue (known (charsets.encoding_of found) indexes))

-- a word under its encoding, or the error that its encoding field has
abbrev pub under_encoding : Option front.Encoding → List ℕ → Result Encoding ParserError
    → Result Parsed ParserError
under_encoding found text (Ok encoding) = Ok (ParsedWord found encoding text)
under_encoding found text (Err error) = Err error

-- a word as it is parsed: RFC 2047, sections 3 and 4
abbrev pub parsed_word : Indexes → Word → Result Parsed ParserError
parsed_word indexes w = under_encoding (charset w.charset indexes) w.text (encoding_of w.encoding)

-- a token as it is parsed; no token shows a gap (`part_of`), so nothing rests on the last line
abbrev pub parsed_part : Indexes → Part → Result Parsed ParserError
parsed_part indexes (Encoded w) = parsed_word indexes w
parsed_part indexes (Clear text) = Ok (ParsedClear text)
parsed_part indexes (Gap text) = Ok (ParsedClear text)

-- tokens as they are parsed, in order, or the error of the first encoding field that has one
abbrev pub parsed_parts : Indexes → List Part → Result (List Parsed) ParserError
parsed_parts indexes parts = join_lists (map (λ part. one_element (parsed_part indexes part)) parts)

-- bytes in a charset, or in ASCII where the charset is unknown
abbrev pub in_charset : Option front.Encoding → Indexes → List ℕ → List ℕ
in_charset found indexes bytes = option_map_or (λ encoding. marked_text encoding indexes bytes)
    found (ascii_text bytes)

-- the text of a parsed part
abbrev pub parsed_text : Indexes → Parsed → Text
parsed_text indexes (ParsedClear text) = clear_text text
parsed_text indexes (ParsedWord found encoding text) =
    shown_value (in_charset found indexes) (value_of encoding text)

-- the texts of parsed parts joined, or the first fault among them
abbrev pub parsed_texts : Indexes → List Parsed → Text
parsed_texts indexes parts = join_lists (map (parsed_text indexes) parts)
