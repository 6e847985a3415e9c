use Rattle.std.proofs.Common.{◌≡◌, ◌≤◌, ◌+◌, ◌++◌, length, take}
use Rattle.qp.specs.declared.InputMode.{InputMode}
use Rattle.qp.specs.Items.{items, keeps_breaks}
use Rattle.qp.specs.Layout.{laid_out_from}
use Rattle.qp.proofs.encoder.fill.Given as goal

abbrev pub invariant-loop-rest : goal.invariant-loop-rest
invariant-loop-rest l = record {
  value : (mode : InputMode) → keeps_breaks mode ≡ l.text → take l.at l.room ++ laid_out_from l.limit l.now (items mode l.rest) ≡ laid_out_from l.limit l.used (items mode l.input);
  most : l.now ≤ l.limit;
  within : l.at + 32 ≤ length l.room;
  len : length l.room ≡ length l.fn.room;
  shorter : length l.rest ≤ length l.input;
}

abbrev pub decreases-loop-rest : goal.decreases-loop-rest
decreases-loop-rest l = length l.rest
