use Rattle.std.proofs.Common.{sym}
use Rattle.enc_front.proofs.RunLemmas.{fails_low, fails_middle, last_part}
use Rattle.enc_front.proofs.rows.run_fails.Goals as goal

pub returns-then-part_fails : goal.returns-then-part_fails
returns-then-part_fails c =
    sym (fails_low c.args.row c.min.result c.args.end c.min.ensures
    (c.part_fails.ensures.fails c.if-part_fails.true))

pub returns-then-part_fails-2 : goal.returns-then-part_fails-2
returns-then-part_fails-2 c =
    sym (fails_middle c.args.row c.min-2.result c.args.end c.min-2.ensures
    (c.part_fails-2.ensures.fails c.if-part_fails-2.true))

pub returns : goal.returns
returns c =
    last_part c.args.row c.min.result c.min-2.result c.min-3.result c.args.end c.part_fails-3.result
    c.min.ensures c.min-2.ensures c.min-3.ensures
    (c.part_fails.ensures.passes c.if-part_fails.false)
    (c.part_fails-2.ensures.passes c.if-part_fails-2.false) c.part_fails-3.ensures.fails
    c.part_fails-3.ensures.passes
