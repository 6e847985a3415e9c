use Rattle.std.proofs.Common.{arith}
use Rattle.qp.proofs.LaneLemmas.{stored_run}
use Rattle.qp.proofs.encoder.put_run.Goals as goal

pub returns-clause-written : goal.returns-clause-written
returns-clause-written c = stored_run 16 c.args.room.now c.args.text.now c.args.at c.run_len-run.result c.requires (omega arith) c.run_len-run.ensures.few
