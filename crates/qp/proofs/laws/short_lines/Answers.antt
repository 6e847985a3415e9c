use Rattle.qp.proofs.InRows.{short_lines_law}
use Rattle.qp.proofs.laws.short_lines.Goals as goal

pub returns : goal.returns
returns c = short_lines_law
