-- Errors of unwrapping a stream.
use Rattle.std.specs.Prelude.{⊤}
use Rattle.words.specs.declared.decoder.Error.{Error}
use Rattle.words.specs.declared.decoder.Error.TheVariants as words
use Rattle.unwrap.specs.declared.header.HeaderError.{HeaderError}
use Rattle.unwrap.specs.declared.header.HeaderError.TheVariants.{Memory, NoTable, ReadFault}
use Rattle.unwrap.specs.declared.header.HeaderError.TheVariants.{TooMuch, Lexer, Parser, Evaluator}
use Rattle.enc_io.specs.declared.builder.BuildError.{BuildError}
use Rattle.enc_io.specs.declared.builder.BuildError.TheVariants as build
use Rattle.unwrap.specs.declared.status.Status.{Status}
use Rattle.unwrap.specs.declared.status.Status.TheVariants as status
use Rattle.unwrap.specs.declared.text.CopyFault.{CopyFault}
use Rattle.unwrap.specs.declared.text.CopyFault.TheVariants as copy
use Rattle.unwrap.specs.declared.status.ReadError.{ReadError}
use Rattle.unwrap.specs.declared.status.ReadError.TheVariants as read

-- an error of reading as one of unwrapping
abbrev pub read_error : ReadError → HeaderError
read_error read.ReadFault = ReadFault
read_error read.TooMuch = TooMuch
read_error read.Memory = Memory

-- an error of a header as one of unwrapping
abbrev pub words_error : Error → HeaderError
words_error (words.Lexer error) = Lexer error
words_error (words.Parser error) = Parser error
words_error (words.Evaluator error) = Evaluator error
words_error words.Memory = Memory

-- a reader that isn't built; a buffer is never too small here
abbrev pub build_error : BuildError → HeaderError
build_error (build.NoTable encoding) = NoTable encoding
build_error (build.TooSmall room) = Memory
build_error build.Memory = Memory

-- the encoding has no index
abbrev pub IsNoTable : HeaderError → Type 0
IsNoTable (NoTable encoding) = ⊤
IsNoTable _ = ⊥

-- the status of an error
abbrev pub error_status : HeaderError → Status
error_status Memory = status.Memory
error_status (NoTable encoding) = status.NoTable encoding
error_status ReadFault = status.ReadFault
error_status TooMuch = status.TooMuch
error_status (Lexer error) = status.Header (words.Lexer error)
error_status (Parser error) = status.Header (words.Parser error)
error_status (Evaluator error) = status.Header (words.Evaluator error)

-- a fault of a copy to a vector, which fails where it finds no memory
abbrev pub copy_error : CopyFault → ReadError
copy_error copy.ReadFault = read.ReadFault
copy_error copy.TooMuch = read.TooMuch
copy_error copy.WriteFault = read.Memory
