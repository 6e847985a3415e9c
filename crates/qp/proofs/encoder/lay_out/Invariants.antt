use Rattle.std.proofs.Common.{◌≡◌, ◌≤◌, ◌++◌, length}
use Rattle.qp.specs.Items.{items}
use Rattle.qp.specs.Layout.{laid_out_from, laid_out}
use Rattle.qp.proofs.encoder.lay_out.Given as goal

abbrev pub invariant-loop-rest : goal.invariant-loop-rest
invariant-loop-rest l = record {
  value : l.encoded.items ++ laid_out_from l.limit l.used (items l.mode l.rest) ≡ laid_out l.limit (items l.mode l.input);
  most : l.used ≤ l.limit;
}

abbrev pub decreases-loop-rest : goal.decreases-loop-rest
decreases-loop-rest l = length l.rest
