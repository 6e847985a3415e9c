-- The values of the commands `qp-encode` and `qp-decode` (RFC 2045, section 6.7).
use Rattle.std.specs.Prelude.{ℕ, Bool, if◌then◌else◌, Result, Ok, Err, List}
use Rattle.qp.specs.declared.InputMode.TheVariants.{Text, Binary}
use Rattle.qp.specs.declared.ParseMode.TheVariants.{Strict, Robust}
use Rattle.qp.specs.declared.QuotedPrintableError.{QuotedPrintableError}
use Rattle.qp.specs.Items.{items}
use Rattle.qp.specs.Layout.{laid_out}
use Rattle.qp.specs.Strict.{decoded}
use Rattle.unwrap.specs.Asked.{Quoted}
use Rattle.unwrap.specs.Delivers.{Answer, InQuoted}

-- quoted-printable text of bytes, which are text, or any bytes under `--binary`
abbrev pub encoded_value : Quoted → List ℕ → Answer
encoded_value options bytes =
    Ok (laid_out options.line (items (if options.chosen then Binary else Text) bytes))

-- a value, or a fault, as an answer
abbrev pub quoted_answer : Result (List ℕ) QuotedPrintableError → Answer
quoted_answer (Ok bytes) = Ok bytes
quoted_answer (Err error) = Err (InQuoted error)

-- what quoted-printable text stands for, or under `--strict` its first fault
abbrev pub decoded_value : Quoted → List ℕ → Answer
decoded_value options bytes =
    quoted_answer (decoded (if options.chosen then Strict else Robust) options.line bytes)

-- the one or the other
abbrev pub quoted_value : Bool → Quoted → List ℕ → Answer
quoted_value encodes options bytes = if encodes then encoded_value options bytes
    else decoded_value options bytes
