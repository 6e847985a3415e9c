use Rattle.header_block.specs.FieldView.{gathered_of}
use Rattle.header_block.proofs.GatherLemmas.{gathers_finds, gathers_none, gathers_stops, gathers_trans}
use Rattle.header_block.proofs.field_reader.FieldReader.gather.Goals as goal

pub loop-error-init : goal.loop-error-init
loop-error-init g c = gathers_none (gathered_of c.args.self.now)

pub returns-in-Ok-true : goal.returns-in-Ok-true
returns-in-Ok-true g c = gathers_finds (gathered_of c.args.self.now) (gathered_of c.loop-error.self) (gathered_of c.step.new.self) c.loop-error.invariant (rw c.in-Ok-true.field-0-test at c.in-Ok-true.ensures)

pub loop-error-preserved : goal.loop-error-preserved
loop-error-preserved g c = gathers_trans (gathered_of c.args.self.now) (gathered_of c.loop-error.self) (gathered_of c.step.new.self) c.loop-error.invariant (rw c.in-Ok-false.field-0-test at c.in-Ok-false.ensures).0

pub returns-in-Err : goal.returns-in-Err
returns-in-Err g c = gathers_stops (gathered_of c.args.self.now) (gathered_of c.loop-error.self) (gathered_of c.step.new.self) c.in-Err.error c.loop-error.invariant c.in-Err.ensures
