use Rattle.qp.proofs.LawLemmas.{line_by_line_law}
use Rattle.qp.proofs.laws.line_by_line.Goals as goal

pub returns : goal.returns
returns c = line_by_line_law
