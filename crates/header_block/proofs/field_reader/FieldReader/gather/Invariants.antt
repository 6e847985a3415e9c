use Rattle.header_block.specs.FieldView.{gathered_of}
use Rattle.header_block.specs.Gathering.{Gathers, turns}
use Rattle.header_block.proofs.field_reader.FieldReader.gather.Given as goal

abbrev pub invariant-loop-error : goal.invariant-loop-error
invariant-loop-error g l = Gathers (gathered_of l.initial.self) (gathered_of l.self)

abbrev pub decreases-loop-error : goal.decreases-loop-error
decreases-loop-error g l = turns (gathered_of l.self)
