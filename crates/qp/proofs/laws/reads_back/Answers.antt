use Rattle.qp.proofs.Inverse.{reads_back_law}
use Rattle.qp.proofs.laws.reads_back.Goals as goal

pub returns : goal.returns
returns c = reads_back_law
