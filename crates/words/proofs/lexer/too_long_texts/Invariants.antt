use Rattle.std.proofs.Common.{◌≡◌, map, take, string_bytes}
use Rattle.words.specs.Tokens.{long_words, display_text}
use Rattle.words.specs.Lexer.{token_part}
use Rattle.words.proofs.lexer.too_long_texts.Given as goal

abbrev pub invariant-loop-token : goal.invariant-loop-token
invariant-loop-token l = map string_bytes l.texts.items ≡ map display_text (long_words (map token_part (take l.token-index l.tokens)))
