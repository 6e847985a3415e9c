use Rattle.std.proofs.Common.{◌≡◌, map, take}
use Rattle.words.specs.Lexer.{token_part}
use Rattle.words.specs.Tokens.{part_of}
use Rattle.words.proofs.lexer.to_tokens.Given as goal

abbrev pub invariant-loop-slice : goal.invariant-loop-slice
invariant-loop-slice l = map part_of l.tokens.items ≡ map token_part (take l.slice-index l.slices)
