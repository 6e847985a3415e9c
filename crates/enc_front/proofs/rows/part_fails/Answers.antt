use Rattle.enc_front.proofs.RunLemmas.{surrogate_part}
use Rattle.enc_front.proofs.rows.part_fails.Goals as goal

pub returns-then-first-lt57344-clause-fails : goal.returns-then-first-lt57344-clause-fails
returns-then-first-lt57344-clause-fails c h =
    surrogate_part c.args.row c.args.low c.args.high c.max-from.result c.max-from.ensures
    c.if-high-from.false c.if-last-ge55296.true c.if-first-lt57344.true
