use Rattle.std.proofs.Common.{◌≡◌, ◌≤◌, drop, length}
use Rattle.enc_front.specs.LabelOrder.{label_order}
use Rattle.enc_front.proofs.encoding.is_before.Given as goal

abbrev pub invariant-loop-i : goal.invariant-loop-i
invariant-loop-i l = record {
  rest : label_order (drop l.i l.a) (drop l.i l.b) ≡ label_order l.a l.b;
  within : l.i ≤ length l.b;
}
