use Rattle.qp.proofs.InRows.{whole_items_law}
use Rattle.qp.proofs.laws.whole_items.Goals as goal

pub returns : goal.returns
returns c = whole_items_law
