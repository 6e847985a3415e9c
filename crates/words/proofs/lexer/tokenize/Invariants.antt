use Rattle.std.proofs.Common.{◌≡◌, ◌++◌, length, map}
use Rattle.words.specs.Reading.{reading_of}
use Rattle.words.specs.Tokens.{tokens_of}
use Rattle.words.specs.Lexer.{token_part}
use Rattle.words.proofs.TokenLemmas.{parts_after}
use Rattle.words.proofs.lexer.tokenize.Given as goal

-- the tokens so far, and those of what is left, are those of the header
abbrev pub invariant-loop-first : goal.invariant-loop-first
invariant-loop-first l =
    map token_part l.tokens.items ++ tokens_of l.strategy (parts_after l.after_word l.rest) ≡ tokens_of l.strategy (reading_of l.encoded_bytes)

abbrev pub decreases-loop-first : goal.decreases-loop-first
decreases-loop-first l = length l.rest
