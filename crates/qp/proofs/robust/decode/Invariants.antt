use Rattle.std.proofs.Common.{◌≡◌, ◌++◌, length}
use Rattle.qp.specs.Robust.{robust}
use Rattle.qp.proofs.robust.decode.Given as goal

abbrev pub invariant-loop-line : goal.invariant-loop-line
invariant-loop-line l = l.decoded.items ++ robust l.rest ≡ robust l.input

abbrev pub decreases-loop-line : goal.decreases-loop-line
decreases-loop-line l = length l.rest
