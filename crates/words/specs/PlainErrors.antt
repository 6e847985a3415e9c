-- Errors with the texts that they hold as lists of bytes.
use Rattle.std.specs.Prelude.{ℕ, List, string_bytes}
use Rattle.words.specs.declared.parser.ParserError.{ParserError}
use Rattle.words.specs.declared.lexer.LexerError.{LexerError}
use Rattle.words.specs.declared.lexer.LexerError.TheVariants as lexer
use Rattle.words.specs.declared.evaluator.EvaluatorError.{EvaluatorError}
use Rattle.words.specs.declared.decoder.Error.{Error}
use Rattle.words.specs.declared.decoder.Error.TheVariants as decoder
use Rattle.words.specs.Tokens.{texts_of}

-- why a header has no tokens
pub data PlainLexerError : Type 0 where
  ParseBytes : List ℕ → PlainLexerError
  TooLongWords : List (List ℕ) → PlainLexerError
  LexerMemory : PlainLexerError

-- an error of the lexer with its texts as lists
abbrev pub plain_lexer_error : LexerError → PlainLexerError
plain_lexer_error (lexer.ParseBytesError message) = ParseBytes (string_bytes message)
plain_lexer_error (lexer.ParseEncodedWordTooLongError words) = TooLongWords (texts_of words)
plain_lexer_error lexer.Memory = LexerMemory

-- why a header has no text, by the step that found it
pub data PlainError : Type 0 where
  OfLexer : PlainLexerError → PlainError
  OfParser : ParserError → PlainError
  OfEvaluator : EvaluatorError → PlainError
  OfMemory : PlainError

-- an error of a header with its texts as lists
abbrev pub plain_error : Error → PlainError
plain_error (decoder.Lexer error) = OfLexer (plain_lexer_error error)
plain_error (decoder.Parser error) = OfParser error
plain_error (decoder.Evaluator error) = OfEvaluator error
plain_error decoder.Memory = OfMemory
