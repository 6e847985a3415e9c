use Rattle.std.proofs.Common.{arith}
use Rattle.qp.proofs.SpreadLemmas.{group_is}
use Rattle.qp.proofs.spread.first_group.Goals as goal

pub returns : goal.returns
returns c = group_is c.args.v c.args.high c.args.low 0 c.fits-v.0 c.fits-high.0 c.fits-low.0 (omega arith)
