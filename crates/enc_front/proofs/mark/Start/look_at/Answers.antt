use Rattle.enc_front.proofs.MarkLemmas.{over_other}
use Rattle.enc_front.proofs.mark.Start.look_at.Goals as goal

pub returns-in-Over : goal.returns-in-Over
returns-in-Over c = rw c.in-Over.is (over_other c.args.encoding c.args.byte)
