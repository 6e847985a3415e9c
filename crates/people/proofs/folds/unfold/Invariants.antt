use Rattle.std.proofs.Common.{◌≡◌, ◌++◌, length}
use Rattle.people.specs.Unfolded.{unfolded}
use Rattle.people.proofs.folds.unfold.Given as goal

abbrev pub invariant-loop-line : goal.invariant-loop-line
invariant-loop-line l = l.unfolded.items ++ unfolded l.rest ≡ unfolded l.bytes

abbrev pub decreases-loop-line : goal.decreases-loop-line
decreases-loop-line l = length l.rest
