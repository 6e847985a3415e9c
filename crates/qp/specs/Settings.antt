-- What an `Options` says, and the order of the small types.
use Rattle.std.specs.Prelude.{ℕ}
use Rattle.qp.specs.declared.Options.{Options}
use Rattle.qp.specs.declared.InputMode.{InputMode}
use Rattle.qp.specs.declared.InputMode.TheVariants.{Text, Binary}
use Rattle.qp.specs.declared.ParseMode.{ParseMode}
use Rattle.qp.specs.declared.ParseMode.TheVariants.{Strict, Robust}
use Rattle.qp.specs.declared.QuotedPrintableError.{QuotedPrintableError}
use Rattle.qp.specs.declared.QuotedPrintableError.TheVariants.{InvalidByte, LineTooLong}
use Rattle.qp.specs.declared.QuotedPrintableError.TheVariants.{IncompleteHexOctet, InvalidHexOctet}
use Rattle.qp.specs.declared.QuotedPrintableError.TheVariants.{LowercaseHexOctet}

-- how many bytes a line may have
abbrev pub line_limit : Options → ℕ
line_limit o = o.line_length_limit

-- what the encoder takes its input for
abbrev pub input_mode : Options → InputMode
input_mode o = o.input_mode

-- whether the decoder refuses faults
abbrev pub parse_mode : Options → ParseMode
parse_mode o = o.parse_mode

-- the place of a parse mode in its list
abbrev pub parse_mode_place : ParseMode → ℕ
parse_mode_place Strict = 0
parse_mode_place Robust = 1

-- the place of an input mode in its list
abbrev pub input_mode_place : InputMode → ℕ
input_mode_place Text = 0
input_mode_place Binary = 1

-- the place of an error in its list
abbrev pub error_place : QuotedPrintableError → ℕ
error_place InvalidByte = 0
error_place LineTooLong = 1
error_place IncompleteHexOctet = 2
error_place InvalidHexOctet = 3
error_place LowercaseHexOctet = 4
