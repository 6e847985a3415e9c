use Rattle.std.proofs.Common.{◌≡◌, length}
use Rattle.word_writer.specs.Plain.{has_word_start}
use Rattle.word_writer.proofs.plain.has_word_start.Given as goal

-- what is left decides
abbrev pub invariant-loop-more : goal.invariant-loop-more
invariant-loop-more l = has_word_start l.bytes ≡ has_word_start l.rest

abbrev pub decreases-loop-more : goal.decreases-loop-more
decreases-loop-more l = length l.rest
