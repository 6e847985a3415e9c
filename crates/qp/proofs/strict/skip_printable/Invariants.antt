use Rattle.std.proofs.Common.{◌≡◌, ◌≤◌, length}
use Rattle.qp.specs.Strict.{has_invalid_byte}
use Rattle.qp.proofs.strict.skip_printable.Given as goal

abbrev pub invariant-loop-rest : goal.invariant-loop-rest
invariant-loop-rest l = (has_invalid_byte l.rest ≡ has_invalid_byte l.text) × (length l.rest ≤ length l.text)

abbrev pub decreases-loop-rest : goal.decreases-loop-rest
decreases-loop-rest l = length l.rest
