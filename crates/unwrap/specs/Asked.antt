-- What a command line asks for.
use Rattle.std.specs.Prelude.{ℕ, Bool, not, List, [], Option, codes, map, string_bytes, String}
use Rattle.std.specs.Prelude.{option_and_then, unwrap_or}
use Rattle.std.specs.Option.{option_map}
use Rattle.std.specs.declared.alloc.Global.{Global}
use Rattle.clap.specs.Words.{Row, Text, all_of, first_of, one_of}
use Rattle.enc_front.specs.declared.encoding.Encoding.{Encoding}
use Rattle.enc_front.specs.declared.tables.IndexKind.{IndexKind}
use Rattle.words.specs.declared.strategy.RecoverStrategy.{RecoverStrategy}
use Rattle.unwrap.specs.declared.command_line.table.CommandName.{CommandName}
use Rattle.unwrap.specs.declared.command_line.table.CommandName.TheVariants as name
use Rattle.unwrap.specs.declared.command_line.options.QuotedOptions.{QuotedOptions}
use Rattle.unwrap.specs.declared.command_line.options.ReaderOptions.{ReaderOptions}
use Rattle.unwrap.specs.declared.command_line.options.StreamOptions.{StreamOptions}
use Rattle.unwrap.specs.Matched.{matched_in}
use Rattle.unwrap.specs.Numbers.{number_in, number_read}
use Rattle.unwrap.specs.Table as table
use Rattle.unwrap.specs.Table.{described, row_named}
use Rattle.unwrap.specs.Values.{encoding_read, file_view, files_read, is_true_text, strategy_read}

-- words as texts
abbrev pub texts_of : List (String Global) → List Text
texts_of words = map string_bytes words

-- the options of a command that reads a stream's text, where names are texts
pub record Stream : Type 0 where
  pub reader : ReaderOptions
  pub buffer : ℕ
  pub piece : ℕ
  pub files : List (IndexKind × Text)

abbrev pub stream_view : StreamOptions → Stream
stream_view o = record {
  reader = o.reader;
  buffer = o.buffer;
  piece = o.piece;
  files = map file_view o.files.items;
}

-- the options of a command for quoted-printable text: of an encoder whether its input is any bytes,
-- of a decoder whether it is strict; the most bytes of a line; and of the input
pub record Quoted : Type 0 where
  pub chosen : Bool
  pub line : ℕ
  pub limit : ℕ

abbrev pub quoted_view : QuotedOptions → Quoted
quoted_view o = record { chosen = o.chosen; line = o.line; limit = o.limit }

-- the commands with their options
pub data Asked : Type 0 where
  Unwrap : Stream → RecoverStrategy → Asked
  StreamText : Stream → Asked
  QpEncode : Quoted → Asked
  QpDecode : Quoted → Asked
  Make : ℕ → Asked

-- whether a flag was given
abbrev pub has_flag : Text → List Row → Bool
has_flag name rows = is_true_text (one_of name rows)

abbrev pub reader_with : List Row → Option Encoding → ℕ → ReaderOptions
reader_with rows encoding limit = record {
  encoding = encoding;
  utf8_passthru = has_flag (codes "utf8-passthru") rows;
  strip_bom = has_flag (codes "strip-bom") rows;
  bom_override = has_flag (codes "bom-override") rows;
  bom_sniffing = not (has_flag (codes "no-bom-sniffing") rows);
  limit = limit;
}

-- how a stream is read by what `clap` found, and `None` where a value isn't of its form
unfoldable pub reader_in : ℕ → List Row → Option ReaderOptions
reader_in default_limit rows =
    option_and_then (λ encoding. option_map (reader_with rows encoding)
    (number_read 0 999999999 default_limit (first_of (codes "limit") rows)))
    (encoding_read (first_of (codes "encoding") rows))

abbrev pub stream_with : ReaderOptions → ℕ → ℕ → List (IndexKind × Text) → Stream
stream_with reader buffer piece files =
    record { reader = reader; buffer = buffer; piece = piece; files = files }

-- the same for all options of a command that reads a stream's text
unfoldable pub stream_in : ℕ → List Row → Option Stream
stream_in default_limit rows =
    option_and_then (λ reader.
    option_and_then (λ buffer.
    option_and_then (λ piece. option_map (stream_with reader buffer piece)
    (files_read (unwrap_or (all_of (codes "index") rows) [])))
    (number_read 1 1048576 4096 (first_of (codes "piece") rows)))
    (number_read 4 1048576 8192 (first_of (codes "buffer") rows)))
    (reader_in default_limit rows)

abbrev pub quoted_with : Text → List Row → ℕ → ℕ → Quoted
quoted_with flag rows line limit =
    record { chosen = has_flag flag rows; line = line; limit = limit }

-- the same for quoted-printable text
unfoldable pub quoted_in : Text → List Row → Option Quoted
quoted_in flag rows =
    option_and_then (λ line. option_map (quoted_with flag rows line)
    (number_read 0 999999999 1048576 (first_of (codes "limit") rows)))
    (number_read 6 998 76 (first_of (codes "line") rows))

-- what `unwrap` is asked for
abbrev pub unwrap_in : List Row → Option Asked
unwrap_in rows =
    option_and_then (λ strategy. option_map (λ stream. Unwrap stream strategy)
    (stream_in 1048576 rows)) (strategy_read (first_of (codes "strategy") rows))

-- how many parts `make` is asked for
abbrev pub make_in : List Row → Option Asked
make_in rows = option_map Make (option_and_then (number_in 1 20000) (first_of (codes "parts") rows))

abbrev pub text_in : List Row → Option Asked
text_in rows = option_map StreamText (stream_in 999999999 rows)

abbrev pub qp_encode_in : List Row → Option Asked
qp_encode_in rows = option_map QpEncode (quoted_in (codes "binary") rows)

abbrev pub qp_decode_in : List Row → Option Asked
qp_decode_in rows = option_map QpDecode (quoted_in (codes "strict") rows)

-- what each command is asked for by what `clap` found
abbrev pub found_in : CommandName → List Row → Option Asked
found_in name.Unwrap rows = unwrap_in rows
found_in name.Text rows = text_in rows
found_in name.QpEncode rows = qp_encode_in rows
found_in name.QpDecode rows = qp_decode_in rows
found_in name.Make rows = make_in rows

-- what the words ask the command of a row for; the first of the words is passed over
abbrev pub asked_of : table.Row → List Text → Option Asked
asked_of row words = option_and_then (found_in row.name) (matched_in (described row) words)

-- what a command line asks for, by the first of its words, and `None` where it is not understood
unfoldable pub asked : List Text → Option Asked
asked words = option_and_then (λ row. asked_of row words) (row_named words)
