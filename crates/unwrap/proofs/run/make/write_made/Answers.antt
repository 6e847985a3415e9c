use Rattle.unwrap.proofs.MadeLine.{not_read_fault, tells_memory, tells_of}
use Rattle.unwrap.proofs.run.make.write_made.Goals as goal

pub returns-in-Err-clause-made : goal.returns-in-Err-clause-made
returns-in-Err-clause-made g c = λ _. tells_memory c.args.parts _

pub returns-clause-made : goal.returns-clause-made
returns-clause-made g c =
    λ few. tells_of c.args.parts c.in-Ok.header.items _ _ c.write_line-status.result c.in-Ok.ensures few
    (not_read_fault c.write_line-status.result _ _ c.write_line-status.ensures.counts) c.write_line-status.ensures.delivers
