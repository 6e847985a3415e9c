use Rattle.std.proofs.Common.{sym}
use Rattle.people.proofs.FoldLemmas.{without_return-taken, without_return-same}
use Rattle.people.proofs.folds.without_return.Goals as goal

pub returns-then-ends_in_return : goal.returns-then-ends_in_return
returns-then-ends_in_return c = without_return-taken c.args.bytes.now (sym c.if-ends_in_return.ensures)

pub returns : goal.returns
returns c = without_return-same c.args.bytes.now (sym c.if-ends_in_return.ensures)
