use Rattle.qp.proofs.LawLemmas.{literal_octets_law}
use Rattle.qp.proofs.laws.literal_octets.Goals as goal

pub returns : goal.returns
returns c = literal_octets_law
