use Rattle.std.proofs.Common.{◌≡◌, ◌≤◌, ◌<◌, ◌+◌, ◌++◌, length, take}
use Rattle.qp.specs.declared.InputMode.{InputMode}
use Rattle.qp.specs.Items.{items, keeps_breaks}
use Rattle.qp.specs.Layout.{laid_out_from}
use Rattle.qp.proofs.encoder.put_rest.Given as goal

abbrev pub invariant-loop-at : goal.invariant-loop-at
invariant-loop-at l = record {
  value : (mode : InputMode) → keeps_breaks mode ≡ l.text → take l.at l.room ++ laid_out_from l.limit l.now (items mode l.rest) ≡ take l.from l.fn.room ++ laid_out_from l.limit l.used (items mode l.input);
  most : l.now ≤ l.limit;
  within : l.at + 32 ≤ length l.room;
  len : length l.room ≡ length l.fn.room;
  some : 0 < length l.rest;
  shorter : length l.rest ≤ length l.input;
}

abbrev pub decreases-loop-at : goal.decreases-loop-at
decreases-loop-at l = length l.rest
