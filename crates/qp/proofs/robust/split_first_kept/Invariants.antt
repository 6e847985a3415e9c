use Rattle.std.proofs.Common.{◌≡◌, drop}
use Rattle.qp.specs.Text.{kept}
use Rattle.qp.proofs.robust.split_first_kept.Given as goal

abbrev pub invariant-loop-i : goal.invariant-loop-i
invariant-loop-i l = kept (drop l.i l.text) ≡ kept l.text
