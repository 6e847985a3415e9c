use Rattle.std.proofs.Common.{◌≡◌, ◌++◌, length, string_bytes}
use denote.Text.{Utf8}
use denote.Shadow.{shadow}
use Rattle.word_writer.specs.Written.{words_of}
use Rattle.word_writer.proofs.Cutting.{later_words}
use Rattle.word_writer.proofs.writer.push_words.Given as goal

-- what is written, and the words of what is left, are the words of all
abbrev pub invariant-loop-rest : goal.invariant-loop-rest
invariant-loop-rest l = shadow (Utf8 l.rest) × (string_bytes l.written ++ later_words l.rest ≡ string_bytes l.fn.written ++ words_of l.text)

abbrev pub decreases-loop-rest : goal.decreases-loop-rest
decreases-loop-rest l = length l.rest
