use Rattle.std.proofs.Common.{◌≡◌, ◌≤◌, ◌++◌, length, take}
use Rattle.qp.specs.Robust.{robust}
use Rattle.qp.proofs.robust.fill_text.Given as goal

abbrev pub invariant-loop-rest : goal.invariant-loop-rest
invariant-loop-rest l = record {
  value : take l.at l.room ++ robust l.rest ≡ robust l.text;
  within : l.at ≤ length l.room;
  len : length l.room ≡ length l.fn.room;
  shorter : length l.rest ≤ length l.text;
}

abbrev pub decreases-loop-rest : goal.decreases-loop-rest
decreases-loop-rest l = length l.rest
