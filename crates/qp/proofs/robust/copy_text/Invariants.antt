use Rattle.std.proofs.Common.{◌≡◌, ◌≤◌, ◌++◌, length}
use Rattle.qp.specs.Robust.{robust}
use Rattle.qp.proofs.robust.copy_text.Given as goal

abbrev pub invariant-loop-rest : goal.invariant-loop-rest
invariant-loop-rest l = record {
  value : l.decoded.items ++ robust l.rest ≡ l.fn.decoded.items ++ robust l.text;
  shorter : length l.rest ≤ length l.text;
  len : length l.room ≡ length l.fn.room;
}

abbrev pub decreases-loop-rest : goal.decreases-loop-rest
decreases-loop-rest l = length l.rest
