use Rattle.std.proofs.Common.{◌≡◌, ◌≤◌, ◌++◌, length, take}
use Rattle.qp.specs.Text.{kept}
use Rattle.qp.specs.Line.{parts, values, ends_soft}
use Rattle.qp.proofs.robust.fill.Given as goal

abbrev pub invariant-loop-len : goal.invariant-loop-len
invariant-loop-len l = record {
  value : take l.len l.room ++ values (parts (kept l.rest)) ≡ values (parts (kept l.text));
  soft : ends_soft (parts (kept l.rest)) ≡ ends_soft (parts (kept l.text));
  within : l.len ≤ length l.room;
  same : length l.room ≡ length l.fn.room;
  shorter : length l.rest ≤ length l.text;
}

abbrev pub decreases-loop-len : goal.decreases-loop-len
decreases-loop-len l = length l.rest
