-- The options of a reader of a stream's text.
use Rattle.std.specs.Prelude.{ℕ, Bool, true, false, if◌then◌else◌, None, Some, option_and_then}
use Rattle.std.specs.declared.option.Option.{Option}
use Rattle.enc_front.specs.declared.encoding.Encoding.{Encoding}
use Rattle.enc_front.specs.Indexes.{Indexes, known}

-- the encoding to read by, if one is named; whether a stream with UTF-8's mark passes as it is,
-- whether a mark at the front is left out, whether a mark overrides the named encoding, whether a
-- mark is looked for at all; and the most bytes that a source may give
pub record Options : Type 0 where
  pub encoding : Option Encoding
  pub utf8_passthru : Bool
  pub strip_bom : Bool
  pub bom_override : Bool
  pub bom_sniffing : Bool
  pub limit : ℕ

-- no encoding is named, marks are looked for, and the limit is 999,999,999 bytes
abbrev pub default_options : Options
default_options = record {
  encoding = None;
  utf8_passthru = false;
  strip_bom = false;
  bom_override = false;
  bom_sniffing = true;
  limit = 999999999;
}

-- the named encoding, where an index that it needs is not there
abbrev pub unknown_encoding : Options → Indexes → Option Encoding
unknown_encoding options indexes =
    option_and_then (λ encoding. if known encoding indexes then None else Some encoding)
    options.encoding
