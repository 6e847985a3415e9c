use Rattle.std.proofs.Common.{arith}
use Rattle.qp.specs.Items.{may_stand_within}
use Rattle.qp.proofs.LaneLemmas.{fewer_pass}
use Rattle.qp.proofs.lanes.first_plain.Goals as goal

pub returns-clause-run : goal.returns-clause-run
returns-clause-run c = fewer_pass may_stand_within _ c.plain_lanes.result c.args.text.now (omega arith) c.plain_lanes.ensures.run
