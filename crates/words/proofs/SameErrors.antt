-- Where `==` of errors with texts is true.
use Rattle.std.proofs.Common.{◌≡◌, ℕ, ◌&&◌, nat_eq, List, [], ◌∷◌, refl, ap, Decides, string_bytes, string_eq, String, Global, map, rules}
use Rattle.std.specs.Cmp.Lexicographic.{pointwise}
use Rattle.std.proofs.lemmas.Bool.Decides.{Decides-like}
use Rattle.std.proofs.lemmas.Slice.Eq.{bytes_eq-Decides, slice_eq-Decides}
use Rattle.words.specs.contracts.parser.ParserErrorPartialEq.TheImpl as parser_impl
use Rattle.words.specs.contracts.evaluator.EvaluatorErrorPartialEq.TheImpl as evaluator_impl
use Rattle.words.specs.contracts.lexer.TooLongEncodedWordsPartialEq.TheImpl as too_long_impl
use Rattle.words.specs.contracts.lexer.LexerErrorPartialEq.TheImpl as lexer_impl
use Rattle.words.specs.contracts.decoder.ErrorPartialEq.TheImpl as error_impl
use Rattle.words.specs.declared.parser.ParserError.{ParserError}
use Rattle.words.specs.declared.evaluator.EvaluatorError.{EvaluatorError}
use Rattle.words.specs.declared.lexer.TooLongEncodedWords.{TooLongEncodedWords}
use Rattle.words.specs.declared.lexer.LexerError.{LexerError}
use Rattle.words.specs.declared.lexer.LexerError.TheVariants as lexer
use Rattle.words.specs.declared.decoder.Error.{Error}
use Rattle.words.specs.declared.decoder.Error.TheVariants as decoder
use Rattle.words.specs.PlainErrors.{PlainLexerError, ParseBytes, TooLongWords, LexerMemory, plain_lexer_error, PlainError, OfLexer, OfParser, OfEvaluator, OfMemory, plain_error}
use Rattle.words.specs.Tokens.{texts_of}
use Rattle.words.proofs.SameValues.{apart}

texts_eq : (xs ys : List (String Global)) → pointwise string_eq xs ys ≡ pointwise (pointwise nat_eq) (map string_bytes xs) (map string_bytes ys)
texts_eq [] [] = refl
texts_eq [] (y ∷ ys) = refl
texts_eq (x ∷ xs) [] = refl
texts_eq (x ∷ xs) (y ∷ ys) = ap (λ b. string_eq x y && b) (texts_eq xs ys)

pub same_texts : (x y : TooLongEncodedWords) → Decides (too_long_impl.ghosts.eq x y) (texts_of x ≡ texts_of y)
same_texts x y = slice_eq-Decides bytes_eq-Decides (texts_of x) (texts_of y) (pointwise string_eq x.0.items y.0.items) (texts_eq x.0.items y.0.items)

abbrev lexer_place : PlainLexerError → ℕ
lexer_place (ParseBytes message) = 0
lexer_place (TooLongWords texts) = 1
lexer_place LexerMemory = 2

abbrev message_in : PlainLexerError → List ℕ
message_in (ParseBytes message) = message
message_in (TooLongWords texts) = []
message_in LexerMemory = []

abbrev texts_in : PlainLexerError → List (List ℕ)
texts_in (ParseBytes message) = []
texts_in (TooLongWords texts) = texts
texts_in LexerMemory = []

pub same_lexer_errors : (x y : LexerError) → Decides (lexer_impl.ghosts.eq x y) (plain_lexer_error x ≡ plain_lexer_error y)
same_lexer_errors (lexer.ParseBytesError x) (lexer.ParseBytesError y) = Decides-like _ (ap ParseBytes) (ap message_in) (bytes_eq-Decides (string_bytes x) (string_bytes y))
same_lexer_errors (lexer.ParseBytesError x) (lexer.ParseEncodedWordTooLongError y) = apart 0 1 refl (ap lexer_place)
same_lexer_errors (lexer.ParseBytesError x) lexer.Memory = apart 0 2 refl (ap lexer_place)
same_lexer_errors (lexer.ParseEncodedWordTooLongError x) (lexer.ParseBytesError y) = apart 1 0 refl (ap lexer_place)
same_lexer_errors (lexer.ParseEncodedWordTooLongError x) (lexer.ParseEncodedWordTooLongError y) = Decides-like _ (ap TooLongWords) (ap texts_in) (same_texts x y)
same_lexer_errors (lexer.ParseEncodedWordTooLongError x) lexer.Memory = apart 1 2 refl (ap lexer_place)
same_lexer_errors lexer.Memory (lexer.ParseBytesError y) = apart 2 0 refl (ap lexer_place)
same_lexer_errors lexer.Memory (lexer.ParseEncodedWordTooLongError y) = apart 2 1 refl (ap lexer_place)
same_lexer_errors lexer.Memory lexer.Memory = (λ _. refl, λ _. refl)

same_parser_errors : (x y : ParserError) → Decides (parser_impl.ghosts.eq x y) (x ≡ y)
same_parser_errors x y = search (rules)

same_evaluator_errors : (x y : EvaluatorError) → Decides (evaluator_impl.ghosts.eq x y) (x ≡ y)
same_evaluator_errors x y = search (rules)

abbrev error_place : PlainError → ℕ
error_place (OfLexer error) = 0
error_place (OfParser error) = 1
error_place (OfEvaluator error) = 2
error_place OfMemory = 3

abbrev lexer_error_in : PlainError → PlainLexerError
lexer_error_in (OfLexer error) = error
lexer_error_in (OfParser error) = LexerMemory
lexer_error_in (OfEvaluator error) = LexerMemory
lexer_error_in OfMemory = LexerMemory

abbrev parser_error_in : ParserError → PlainError → ParserError
parser_error_in other (OfLexer error) = other
parser_error_in other (OfParser error) = error
parser_error_in other (OfEvaluator error) = other
parser_error_in other OfMemory = other

abbrev evaluator_error_in : EvaluatorError → PlainError → EvaluatorError
evaluator_error_in other (OfLexer error) = other
evaluator_error_in other (OfParser error) = other
evaluator_error_in other (OfEvaluator error) = error
evaluator_error_in other OfMemory = other

pub same_errors : (x y : Error) → Decides (error_impl.ghosts.eq x y) (plain_error x ≡ plain_error y)
same_errors (decoder.Lexer x) (decoder.Lexer y) = Decides-like _ (ap OfLexer) (ap lexer_error_in) (same_lexer_errors x y)
same_errors (decoder.Lexer x) (decoder.Parser y) = apart 0 1 refl (ap error_place)
same_errors (decoder.Lexer x) (decoder.Evaluator y) = apart 0 2 refl (ap error_place)
same_errors (decoder.Lexer x) decoder.Memory = apart 0 3 refl (ap error_place)
same_errors (decoder.Parser x) (decoder.Lexer y) = apart 1 0 refl (ap error_place)
same_errors (decoder.Parser x) (decoder.Parser y) = Decides-like _ (ap OfParser) (ap (parser_error_in x)) (same_parser_errors x y)
same_errors (decoder.Parser x) (decoder.Evaluator y) = apart 1 2 refl (ap error_place)
same_errors (decoder.Parser x) decoder.Memory = apart 1 3 refl (ap error_place)
same_errors (decoder.Evaluator x) (decoder.Lexer y) = apart 2 0 refl (ap error_place)
same_errors (decoder.Evaluator x) (decoder.Parser y) = apart 2 1 refl (ap error_place)
same_errors (decoder.Evaluator x) (decoder.Evaluator y) = Decides-like _ (ap OfEvaluator) (ap (evaluator_error_in x)) (same_evaluator_errors x y)
same_errors (decoder.Evaluator x) decoder.Memory = apart 2 3 refl (ap error_place)
same_errors decoder.Memory (decoder.Lexer y) = apart 3 0 refl (ap error_place)
same_errors decoder.Memory (decoder.Parser y) = apart 3 1 refl (ap error_place)
same_errors decoder.Memory (decoder.Evaluator y) = apart 3 2 refl (ap error_place)
same_errors decoder.Memory decoder.Memory = (λ _. refl, λ _. refl)
