use Rattle.enc_drivers.specs.Lemmas.EucKrLaw.{euc_kr_law}
use Rattle.enc_drivers.proofs.codes.euc_kr.is_code.Goals as goal

pub returns : goal.returns
returns c = euc_kr_law
