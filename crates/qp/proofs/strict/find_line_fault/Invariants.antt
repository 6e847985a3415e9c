use Rattle.std.proofs.Common.{◌≡◌, length}
use Rattle.qp.specs.Text.{lines}
use Rattle.qp.specs.Strict.{lines_fault, without_empty_end}
use Rattle.qp.proofs.StrictLemmas.{fault_behind}
use Rattle.qp.proofs.strict.find_line_fault.Given as goal

abbrev pub invariant-loop-line : goal.invariant-loop-line
invariant-loop-line l = fault_behind l.limit l.hard l.soft (without_empty_end (lines l.rest)) ≡ lines_fault l.limit (without_empty_end (lines l.input))

abbrev pub decreases-loop-line : goal.decreases-loop-line
decreases-loop-line l = length l.rest
