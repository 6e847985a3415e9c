-- The value of the command `unwrap`.
use Rattle.std.specs.Prelude.{ℕ, Option, Result, Ok, Err, List}
use Rattle.std.specs.Option.{option_map_or}
use Rattle.enc_front.specs.Indexes.{Indexes}
use Rattle.enc_io.specs.Options.{Options, unknown_encoding}
use Rattle.words.specs.declared.strategy.RecoverStrategy.{RecoverStrategy}
use Rattle.words.specs.Fault.{HeaderFault}
use Rattle.unwrap.specs.Asked.{Stream}
use Rattle.unwrap.specs.declared.status.Status.{Status}
use Rattle.unwrap.specs.Delivers.{Answer, Delivers, InHeader, NeedsTable}
use Rattle.unwrap.specs.Status.{TellsTable}
use Rattle.unwrap.specs.Streams.{missing, reader_of}
use Rattle.unwrap.specs.TablesOf.{Files, WithTables}
use Rattle.unwrap.specs.Unwraps.{header_of}

-- the text of a header, or its fault, as a value
abbrev pub header_value : Result (List ℕ) HeaderFault → Answer
header_value (Ok text) = Ok text
header_value (Err fault) = Err (InHeader fault)

-- the header text of a stream's text, where the encoding that is asked for has its indexes
abbrev pub shown : RecoverStrategy → Options → Indexes → List ℕ → Answer
shown strategy options indexes bytes =
    option_map_or (λ encoding. Err (NeedsTable encoding)) (unknown_encoding options indexes)
    (header_value (header_of strategy options indexes bytes))

-- what `unwrap` makes of a stream
abbrev pub unwrapped : Stream → RecoverStrategy → Indexes → List ℕ → Answer
unwrapped stream strategy indexes = shown strategy (reader_of stream.reader) indexes

-- how `unwrap` ends, by what a shelf tells of its files, a source has left and a sink has taken
abbrev pub EndsUnwrap : Stream → RecoverStrategy → Option Files → Option (List ℕ) → Option (List ℕ)
    → Option (List ℕ) → Option (List ℕ) → Status → Type 0
EndsUnwrap stream strategy files left left' taken taken' status =
    WithTables stream.files files status
    (λ indexes. Delivers (unwrapped stream strategy indexes) stream.reader.limit left left' taken
    taken' status
    × TellsTable (missing stream indexes) status)
