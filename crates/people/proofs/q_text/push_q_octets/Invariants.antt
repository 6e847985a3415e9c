use Rattle.std.proofs.Common.{◌≡◌, ◌++◌, length}
use Rattle.people.specs.QText.{q_octets}
use Rattle.people.proofs.q_text.push_q_octets.Given as goal

abbrev pub invariant-loop-run : goal.invariant-loop-run
invariant-loop-run l = l.octets.items ++ q_octets l.rest ≡ l.initial.octets.items ++ q_octets l.text

abbrev pub decreases-loop-run : goal.decreases-loop-run
decreases-loop-run l = length l.rest
