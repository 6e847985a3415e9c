use Rattle.qp.proofs.LawLemmas.{one_line_law}
use Rattle.qp.proofs.laws.one_line.Goals as goal

pub returns : goal.returns
returns c = one_line_law
