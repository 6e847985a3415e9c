use Rattle.enc_drivers.specs.Lemmas.EucKrLaw.{euc_kr_ascii}
use Rattle.enc_drivers.proofs.codes.euc_kr.keeps_ascii.Goals as goal

pub returns : goal.returns
returns c = euc_kr_ascii
