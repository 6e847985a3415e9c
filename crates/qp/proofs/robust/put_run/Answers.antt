use Rattle.std.proofs.Common.{arith}
use Rattle.qp.proofs.LaneLemmas.{stored_run}
use Rattle.qp.proofs.robust.put_run.Goals as goal

pub returns-then-room-at-ge-LANES-clause-written : goal.returns-then-room-at-ge-LANES-clause-written
returns-then-room-at-ge-LANES-clause-written c = stored_run 16 c.args.room.now c.args.text.now c.args.at c.plain_lanes-run.result (omega arith) c.if-text-ge-LANES.true c.plain_lanes-run.ensures.few
