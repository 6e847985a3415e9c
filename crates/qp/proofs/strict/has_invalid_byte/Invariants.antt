use Rattle.std.proofs.Common.{◌≡◌, length}
use Rattle.qp.specs.Strict.{has_invalid_byte}
use Rattle.qp.proofs.strict.has_invalid_byte.Given as goal

abbrev pub invariant-loop-byte : goal.invariant-loop-byte
invariant-loop-byte l = has_invalid_byte l.rest ≡ has_invalid_byte l.input

abbrev pub decreases-loop-byte : goal.decreases-loop-byte
decreases-loop-byte l = length l.rest
