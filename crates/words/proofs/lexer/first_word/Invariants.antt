use Rattle.std.proofs.Common.{length, ◌-◌, ◌≤◌}
use Rattle.words.specs.Lexer.{NoWordBefore}
use Rattle.words.proofs.lexer.first_word.Given as goal

abbrev pub invariant-loop-skipped : goal.invariant-loop-skipped
invariant-loop-skipped l = record { within : l.at ≤ length l.bytes; none_before : NoWordBefore l.bytes l.at }

abbrev pub decreases-loop-skipped : goal.decreases-loop-skipped
decreases-loop-skipped l = length l.bytes - l.at
