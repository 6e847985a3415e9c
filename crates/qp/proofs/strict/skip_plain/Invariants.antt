use Rattle.std.proofs.Common.{◌≡◌, ◌≤◌, length}
use Rattle.qp.specs.Line.{parts, ends_soft}
use Rattle.qp.specs.Strict.{first_fault, part_fault}
use Rattle.qp.proofs.strict.skip_plain.Given as goal

abbrev pub invariant-loop-rest : goal.invariant-loop-rest
invariant-loop-rest l = record {
  soft : ends_soft (parts l.rest) ≡ ends_soft (parts l.text);
  fault : first_fault part_fault (parts l.rest) ≡ first_fault part_fault (parts l.text);
  shorter : length l.rest ≤ length l.text;
}

abbrev pub decreases-loop-rest : goal.decreases-loop-rest
decreases-loop-rest l = length l.rest
