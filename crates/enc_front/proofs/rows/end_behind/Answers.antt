use Rattle.std.proofs.Common.{◌+◌}
use Rattle.enc_front.proofs.RowLemmas.{end_none, end_some}
use Rattle.enc_front.proofs.rows.end_behind.Goals as goal

pub returns-in-Some : goal.returns-in-Some
returns-in-Some c = end_some c.args.rows.now
    (c.args.at + 1) c.in-Some.next.now c.in-Some.ensures.lookup.3.0 c.in-Some.ensures.lookup.1

pub returns-in-None : goal.returns-in-None
returns-in-None c = end_none c.args.rows.now (c.args.at + 1) c.in-None.ensures.lookup.3
