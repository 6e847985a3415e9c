-- What a builder of readers shows.
use Rattle.std.specs.Prelude.{ℕ, nat_lt, if◌then◌else◌, Some, None}
use Rattle.std.specs.declared.option.Option.{Option}
use Rattle.std.specs.Option.{option_map_or}
use Rattle.enc_front.specs.Indexes.{Indexes}
use Rattle.enc_io.specs.declared.builder.BuildError.{BuildError}
use Rattle.enc_io.specs.declared.builder.BuildError.TheVariants.{NoTable, TooSmall}
use Rattle.enc_io.specs.declared.builder.DecodeReaderBytesBuilder.{DecodeReaderBytesBuilder}
use Rattle.enc_io.specs.Options.{Options, unknown_encoding}

-- its options
abbrev pub options_of : DecodeReaderBytesBuilder → Options
options_of builder = record {
  encoding = builder.encoding;
  utf8_passthru = builder.utf8_passthru;
  strip_bom = builder.strip_bom;
  bom_override = builder.bom_override;
  bom_sniffing = builder.bom_sniffing;
  limit = builder.limit;
}

-- why no reader is made with a buffer of so many bytes, if none is
abbrev pub build_error : Options → Indexes → ℕ → Option BuildError
build_error options indexes room =
    option_map_or (λ encoding. Some (NoTable encoding)) (unknown_encoding options indexes)
    (if nat_lt room 4 then Some (TooSmall room) else None)
