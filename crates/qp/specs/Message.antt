-- The texts of the errors.
use Rattle.std.specs.Prelude.{ℕ, List, codes}
use Rattle.qp.specs.declared.QuotedPrintableError.{QuotedPrintableError}
use Rattle.qp.specs.declared.QuotedPrintableError.TheVariants.{InvalidByte, LineTooLong}
use Rattle.qp.specs.declared.QuotedPrintableError.TheVariants.{IncompleteHexOctet, InvalidHexOctet}
use Rattle.qp.specs.declared.QuotedPrintableError.TheVariants.{LowercaseHexOctet}
use Rattle.qp.specs.declared.QpError.{QpError}
use Rattle.qp.specs.declared.QpError.TheVariants.{Memory, Quoted}

-- what `{}` writes of an error
abbrev pub message : QuotedPrintableError → List ℕ
message InvalidByte = codes "A unallowed byte was found in the quoted-printable input"
message LineTooLong = codes "A line length in the quoted-printed input exceeded 76 bytes"
message IncompleteHexOctet = codes "A '=' followed by only one character was found in the input"
message InvalidHexOctet = codes "A '=' followed by non-hex characters was found in the input"
message LowercaseHexOctet = codes "A '=' was followed by lowercase hex characters"

-- what `{}` writes of a decoder's error
abbrev pub decode_message : QpError → List ℕ
decode_message Memory = codes "no memory"
decode_message (Quoted fault) = message fault
