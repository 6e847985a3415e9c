-- Why a header has no text, and the errors that say so.
use Rattle.std.specs.Prelude.{◌≡◌, ◌⊎◌, ℕ, Option, Some, None, IsSomeAnd, Result, Err, List}
use Rattle.words.specs.declared.parser.ParserError.{ParserError}
use Rattle.words.specs.declared.parser.ParserError.TheVariants as parser
use Rattle.words.specs.declared.lexer.LexerError.{LexerError}
use Rattle.words.specs.declared.lexer.LexerError.TheVariants as lexer
use Rattle.words.specs.declared.evaluator.EvaluatorError.{EvaluatorError}
use Rattle.words.specs.declared.evaluator.EvaluatorError.TheVariants as evaluator
use Rattle.words.specs.declared.decoder.Error.{Error}
use Rattle.words.specs.declared.decoder.Error.TheVariants.{Lexer, Parser, Evaluator, Memory}
use Rattle.words.specs.Tokens.{texts_of}

-- why a header has no text, in the order in which faults are looked for
pub data HeaderFault : Type 0 where
  -- some words are too long, and these are the printed texts of exactly those, in order
  TooLong : List (List ℕ) → HeaderFault
  -- the first word whose encoding field names no encoding has several bytes there
  EncodingTooBig : HeaderFault
  -- the first word whose encoding field names no encoding has this one byte there
  EncodingUnknown : ℕ → HeaderFault
  -- the first part without a text is clear text or a skipped word that isn't UTF-8, whose longest
  -- UTF-8 front has this length
  NotUtf8 : ℕ → HeaderFault
  -- the first part without a text is a B word whose text isn't Base64
  NotBase64 : HeaderFault

-- the fault that an error of the lexer tells
abbrev pub lexer_fault : LexerError → Option HeaderFault
lexer_fault (lexer.ParseBytesError message) = None
lexer_fault (lexer.ParseEncodedWordTooLongError words) = Some (TooLong (texts_of words))
lexer_fault lexer.Memory = None

-- the fault of a header that an error of the parser tells; no word of a header has an empty
-- encoding field
abbrev pub parser_fault : ParserError → Option HeaderFault
parser_fault parser.ParseEncodingTooBigError = Some EncodingTooBig
parser_fault parser.ParseEncodingEmptyError = None
parser_fault (parser.ParseEncodingError c) = Some (EncodingUnknown c)
parser_fault parser.Memory = None

-- the fault that an error of the evaluator tells; a Q text always has a value
abbrev pub evaluator_fault : EvaluatorError → Option HeaderFault
evaluator_fault (evaluator.DecodeUtf8Error valid_up_to) = Some (NotUtf8 valid_up_to)
evaluator_fault evaluator.DecodeBase64Error = Some NotBase64
evaluator_fault (evaluator.DecodeQuotedPrintableError error) = None
evaluator_fault evaluator.Memory = None

-- an error where there is no text for this fault, or for want of memory
abbrev pub IsTextFault : Result (List ℕ) HeaderFault → EvaluatorError → Type 0
IsTextFault text error = (error ≡ evaluator.Memory)
    ⊎ IsSomeAnd (evaluator_fault error) (λ fault. text ≡ Err fault)

-- the fault of a header that an error tells, if it tells one
abbrev pub fault_of : Error → Option HeaderFault
fault_of (Lexer error) = lexer_fault error
fault_of (Parser error) = parser_fault error
fault_of (Evaluator error) = evaluator_fault error
fault_of Memory = None

-- an error of the lexer as one of a header
abbrev pub from_lexer : LexerError → Error
from_lexer (lexer.ParseBytesError message) = Lexer (lexer.ParseBytesError message)
from_lexer (lexer.ParseEncodedWordTooLongError words) =
    Lexer (lexer.ParseEncodedWordTooLongError words)
from_lexer lexer.Memory = Memory

-- an error of the parser as one of a header
abbrev pub from_parser : ParserError → Error
from_parser parser.ParseEncodingTooBigError = Parser parser.ParseEncodingTooBigError
from_parser parser.ParseEncodingEmptyError = Parser parser.ParseEncodingEmptyError
from_parser (parser.ParseEncodingError c) = Parser (parser.ParseEncodingError c)
from_parser parser.Memory = Memory

-- an error of the evaluator as one of a header
abbrev pub from_evaluator : EvaluatorError → Error
from_evaluator (evaluator.DecodeUtf8Error valid_up_to) =
    Evaluator (evaluator.DecodeUtf8Error valid_up_to)
from_evaluator evaluator.DecodeBase64Error = Evaluator evaluator.DecodeBase64Error
from_evaluator (evaluator.DecodeQuotedPrintableError error) =
    Evaluator (evaluator.DecodeQuotedPrintableError error)
from_evaluator evaluator.Memory = Memory
