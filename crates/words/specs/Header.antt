-- The text of a header, or why it has none: RFC 2047, sections 4 and 6.
use Rattle.std.specs.Prelude.{ℕ, ◌==◌, if◌then◌else◌, Option, Some, None, Result, Ok, Err, List, []}
use Rattle.std.specs.Prelude.{◌∷◌, map}
use Rattle.std.specs.Option.{option_or}
use Rattle.std.specs.Str.{is_utf8}
use Rattle.std.specs.Str.Lossy.{utf8_valid_len}
use Rattle.qp.specs.Robust.{robust}
use Rattle.enc_front.specs.Indexes.{Indexes}
use Rattle.enc_front.specs.Charset.{charset_text}
use Rattle.words.specs.declared.strategy.RecoverStrategy.{RecoverStrategy}
use Rattle.words.specs.declared.parser.Encoding.{Encoding}
use Rattle.words.specs.declared.parser.Encoding.TheVariants.{B, Q}
use Rattle.words.specs.declared.parser.ParserError.{ParserError}
use Rattle.words.specs.Word.{Word, spelling}
use Rattle.words.specs.Reading.{Part, Encoded, Clear, Gap, reading_of}
use Rattle.words.specs.Tokens.{is_skipped, too_long_words, display_text}
use Rattle.words.specs.Base64.{b_value}
use Rattle.words.specs.Encoding.{encoding_of}
use Rattle.words.specs.Joined.{join_lists}
use Rattle.words.specs.Fault.{HeaderFault, TooLong, NotUtf8, NotBase64, parser_fault}

-- an underscore stands for a space: RFC 2047, section 4.2, rule 2
abbrev pub underscore_to_space : ℕ → ℕ
underscore_to_space b = if b == 95 then 32 else b

-- the value of a Q text: quoted-printable, with underscores for spaces, RFC 2047, section 4.2
unfoldable pub q_value : List ℕ → List ℕ
q_value text = robust (map underscore_to_space text)

-- the text of a list of bytes, or the fault that it has none
abbrev pub Text : Type 0
Text = Result (List ℕ) HeaderFault

-- the value of a word's text under its encoding, if it has one
abbrev pub value_of : Encoding → List ℕ → Option (List ℕ)
value_of B text = b_value text
value_of Q text = Some (q_value text)

-- a value as it is shown, `shown`, or a fault where there is none
abbrev pub shown_value : (List ℕ → List ℕ) → Option (List ℕ) → Text
shown_value shown None = Err NotBase64
shown_value shown (Some value) = Ok (shown value)

-- bytes that are shown as they stand
abbrev pub clear_text : List ℕ → Text
clear_text bytes = if is_utf8 bytes then Ok bytes else Err (NotUtf8 (utf8_valid_len bytes))

-- the value of a text under the encoding that a field names; there is none where the field names
-- none
abbrev pub value_by : Result Encoding ParserError → List ℕ → Option (List ℕ)
value_by (Ok encoding) text = value_of encoding text
value_by (Err error) text = None

-- the text of a word that is decoded: the value of its text in its charset. Where its encoding
-- field names no encoding this is a fault like that of a wrong B text, and never a header's, since
-- `parts_text` looks for faults of encoding fields first
abbrev pub word_text : Indexes → Word → Text
word_text indexes w =
    shown_value (charset_text w.charset indexes) (value_by (encoding_of w.encoding) w.text)

-- the text of a part: of a gap it is empty, and a skipped word is shown as it is spelled
abbrev pub part_text : RecoverStrategy → Indexes → Part → Text
part_text strategy indexes (Encoded w) = if is_skipped strategy w then clear_text (spelling w)
    else word_text indexes w
part_text strategy indexes (Clear text) = clear_text text
part_text strategy indexes (Gap text) = Ok []

-- why an encoding field names no encoding
abbrev pub field_fault : Result Encoding ParserError → Option HeaderFault
field_fault (Ok encoding) = None
field_fault (Err error) = parser_fault error

-- the fault of a part's encoding field; that of a skipped word is not looked at
abbrev pub part_encoding_fault : RecoverStrategy → Part → Option HeaderFault
part_encoding_fault strategy (Encoded w) = if is_skipped strategy w then None
    else field_fault (encoding_of w.encoding)
part_encoding_fault strategy (Clear text) = None
part_encoding_fault strategy (Gap text) = None

-- the fault of the first encoding field that has one
abbrev pub encoding_fault : RecoverStrategy → List Part → Option HeaderFault
encoding_fault strategy [] = None
encoding_fault strategy (part ∷ rest) =
    option_or (part_encoding_fault strategy part) (encoding_fault strategy rest)

-- the refusal of these words, which are too long
abbrev pub length_fault : List Word → Option HeaderFault
length_fault [] = None
length_fault (w ∷ rest) = Some (TooLong (map display_text (w ∷ rest)))

-- a fault, or else a text
abbrev pub unless_fault : Option HeaderFault → Text → Text
unless_fault None text = text
unless_fault (Some fault) text = Err fault

-- the text of a header by its parts: too long words refuse it first, then encoding fields, then
-- parts without a text
abbrev pub parts_text : RecoverStrategy → Indexes → List Part → Text
parts_text strategy indexes parts =
    unless_fault (length_fault (too_long_words strategy parts))
    (unless_fault (encoding_fault strategy parts)
    (join_lists (map (part_text strategy indexes) parts)))

-- the text of a header, or why it has none: RFC 2047, sections 2, 4 and 6
unfoldable pub header : RecoverStrategy → Indexes → List ℕ → Text
header strategy indexes bytes = parts_text strategy indexes (reading_of bytes)
