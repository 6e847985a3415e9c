use Rattle.std.proofs.Common.{[], ◌≡◌, map, ap, ◌∙◌, subst}
use Rattle.words.specs.Reading.{reading_of}
use Rattle.words.specs.Lexer.{token_part}
use Rattle.words.specs.Tokens.{too_long_words, IsLexerFault}
use Rattle.words.proofs.TokenLemmas.{too_long_words-tokens}
use Rattle.words.proofs.lexer.slices.Goals as goal

pub returns-clause-fault : goal.returns-clause-fault
returns-clause-fault c =
    let same =
    ap (λ z. too_long_words c.args.strategy (map token_part z)) c.deref.ensures.value ∙
    (ap (too_long_words c.args.strategy) c.in_ok-tokens.ensures ∙ too_long_words-tokens c.args.strategy (reading_of c.args.encoded_bytes.now)) in
    subst (λ z. IsLexerFault z c.in-Err.error) same c.in-Err.ensures.fault

pub returns-in-Ok-clause-none_too_long : goal.returns-in-Ok-clause-none_too_long
returns-in-Ok-clause-none_too_long c =
    let same =
    ap (λ z. too_long_words c.args.strategy (map token_part z)) c.deref.ensures.value ∙
    (ap (too_long_words c.args.strategy) c.in_ok-tokens.ensures ∙ too_long_words-tokens c.args.strategy (reading_of c.args.encoded_bytes.now)) in
    subst (λ z. z ≡ []) same c.in-Ok.ensures.none_too_long
