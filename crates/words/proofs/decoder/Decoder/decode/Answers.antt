use Rattle.std.proofs.Common.{◌≡◌, ◌⊎◌, IfErr, ℕ, Err, Result, List, map, sym, ap, ◌∙◌, subst}
use Rattle.std.proofs.lemmas.Result.{err_from_is_err_and}
use Rattle.enc_front.specs.Indexes.{Indexes, indexes_of}
use Rattle.words.specs.declared.strategy.RecoverStrategy.{RecoverStrategy}
use Rattle.words.specs.declared.parser.ParserError.{ParserError}
use Rattle.words.specs.declared.parser.ParserError.TheVariants as parser
use Rattle.words.specs.declared.decoder.Error.{Error}
use Rattle.words.specs.Fault.{from_lexer, from_parser, from_evaluator}
use Rattle.words.specs.Header.{header}
use Rattle.words.specs.Parsed.{Parsed, sliced_of, parsed_parts, parsed_texts}
use Rattle.words.proofs.Composition.{IsHeaderError, header-parsed, header-lexer, header-parser, header-evaluator}
use Rattle.words.proofs.decoder.Decoder.decode.Goals as goal

-- a result that is an error of this kind
if-err : {T : Type 0} (r : Result T Error) (x : Error) (P : Error → Type 0) → (y : Error) × (r ≡ Err y) × (y ≡ x) → P x → IfErr r P
if-err r x P h p = subst (λ z. IfErr z P) (sym h.1) (subst P (sym h.2) p)

pub returns-in_err-tokens-clause-fault : goal.returns-in_err-tokens-clause-fault
returns-in_err-tokens-clause-fault c =
    let strategy : RecoverStrategy = c.args.self.too_long_encoded_word in
    let indexes : Indexes = indexes_of c.args.tables.now in
    let s : List ℕ = c.args.encoded_str.now in
    if-err c.from_residual.result (from_lexer c.in_err-tokens.field-0.0) (IsHeaderError (header strategy indexes s))
    (err_from_is_err_and c.from_residual.result c.from_residual.ensures.1)
    (header-lexer strategy indexes s c.in_err-tokens.field-0.0 c.in_err-tokens.ensures.fault)

pub returns-in_err-parsed-clause-fault : goal.returns-in_err-parsed-clause-fault
returns-in_err-parsed-clause-fault c =
    let strategy : RecoverStrategy = c.args.self.too_long_encoded_word in
    let indexes : Indexes = indexes_of c.args.tables.now in
    let s : List ℕ = c.args.encoded_str.now in
    let e : ParserError = c.in_err-parsed.field-0.0 in
    if-err c.from_residual-in_err-parsed.result (from_parser e) (IsHeaderError (header strategy indexes s))
    (err_from_is_err_and c.from_residual-in_err-parsed.result c.from_residual-in_err-parsed.ensures.1)
    (header-parser strategy indexes s e c.in_ok-tokens.ensures.none_too_long
    (subst (λ z. (e ≡ parser.Memory) ⊎ (parsed_parts indexes z ≡ Err e)) c.in_ok-tokens.ensures.tokens c.in_err-parsed.ensures.fault))

pub returns-in_err-text-clause-fault : goal.returns-in_err-text-clause-fault
returns-in_err-text-clause-fault c =
    let strategy : RecoverStrategy = c.args.self.too_long_encoded_word in
    let indexes : Indexes = indexes_of c.args.tables.now in
    let s : List ℕ = c.args.encoded_str.now in
    let parsed : List Parsed = map sliced_of c.in_ok-parsed.parsed.items in
    if-err c.from_residual-in_err-text.result (from_evaluator c.in_err-text.field-0.0) (IsHeaderError (header strategy indexes s))
    (err_from_is_err_and c.from_residual-in_err-text.result c.from_residual-in_err-text.ensures.1)
    (header-evaluator (header strategy indexes s) (parsed_texts indexes parsed) c.in_err-text.field-0.0
    (header-parsed strategy indexes s parsed c.in_ok-tokens.ensures.none_too_long
    (ap (parsed_parts indexes) (sym c.in_ok-tokens.ensures.tokens) ∙ c.in_ok-parsed.ensures.parsed))
    c.in_err-text.ensures.fault)

pub returns-clause-text : goal.returns-clause-text
returns-clause-text c =
    let strategy : RecoverStrategy = c.args.self.too_long_encoded_word in
    let indexes : Indexes = indexes_of c.args.tables.now in
    let s : List ℕ = c.args.encoded_str.now in
    header-parsed strategy indexes s (map sliced_of c.in_ok-parsed.parsed.items) c.in_ok-tokens.ensures.none_too_long
    (ap (parsed_parts indexes) (sym c.in_ok-tokens.ensures.tokens) ∙ c.in_ok-parsed.ensures.parsed)
    ∙ c.in_ok-text.ensures.text
