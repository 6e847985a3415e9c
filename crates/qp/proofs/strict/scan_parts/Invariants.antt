use Rattle.std.proofs.Common.{◌≡◌, length}
use Rattle.qp.specs.Line.{parts, ends_soft}
use Rattle.qp.specs.Strict.{first_fault, part_fault}
use Rattle.qp.proofs.strict.scan_parts.Given as goal

abbrev pub invariant-loop-byte : goal.invariant-loop-byte
invariant-loop-byte l = record {
  soft : ends_soft (parts l.rest) ≡ ends_soft (parts l.text);
  fault : first_fault part_fault (parts l.rest) ≡ first_fault part_fault (parts l.text);
}

abbrev pub decreases-loop-byte : goal.decreases-loop-byte
decreases-loop-byte l = length l.rest
