use Rattle.std.proofs.Common.{◌≡◌, ◌++◌, length}
use Rattle.qp.specs.Text.{kept, trimmed}
use Rattle.qp.specs.Line.{parts, values, ends_soft}
use Rattle.qp.proofs.robust.push_line.Given as goal

abbrev pub invariant-loop-byte : goal.invariant-loop-byte
invariant-loop-byte l = record {
  value : l.decoded.items ++ values (parts (kept l.rest)) ≡ l.fn.decoded.items ++ values (parts (trimmed (kept l.line)));
  soft : ends_soft (parts (kept l.rest)) ≡ ends_soft (parts (trimmed (kept l.line)));
}

abbrev pub decreases-loop-byte : goal.decreases-loop-byte
decreases-loop-byte l = length l.rest
