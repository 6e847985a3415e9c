use Rattle.std.proofs.Common.{◌++◌, List, ℕ, false, map, sym, ap, ◌∙◌}
use Rattle.words.specs.Lexer.{sliced_word, token_part}
use Rattle.words.specs.Tokens.{tokens_of}
use Rattle.words.proofs.TokenLemmas.{parts_after, parts_after-start, tokens-turn, tokens-end}
use Rattle.words.proofs.lexer.tokenize.Goals as goal

pub loop-first-init : goal.loop-first-init
loop-first-init c =
    let s : List ℕ = c.args.encoded_bytes.now in
    ap (λ z. map token_part z ++ tokens_of c.args.strategy (parts_after false s)) c.new-tokens.ensures.items ∙ ap (tokens_of c.args.strategy) (parts_after-start s)

pub loop-first-preserved : goal.loop-first-preserved
loop-first-preserved c =
    tokens-turn c.args.strategy c.loop-first.after_word c.loop-first.rest.now c.in-Some.first.before.now (sliced_word c.in-Some.first.word) c.in-Some.first.after.now
    (map token_part c.loop-first.tokens.items) (map token_part c.push_clear_text.new.tokens.items) (map token_part c.push_word.new.tokens.items) _
    c.in-Some.ensures.found c.in_ok-push_clear_text.ensures c.in_ok-push_word.ensures c.loop-first.invariant

pub returns : goal.returns
returns c =
    c.in_ok-push_clear_text-2.ensures ∙
    (ap (λ z. map token_part c.loop-first.tokens.items ++ z) (sym (tokens-end c.args.strategy c.loop-first.after_word c.loop-first.rest.now c.in_default.ensures.none)) ∙
    c.loop-first.invariant)
