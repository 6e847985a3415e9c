use Rattle.enc_drivers.specs.Lemmas.EucJpLaw.{euc_jp_law}
use Rattle.enc_drivers.proofs.codes.euc_jp.is_code.Goals as goal

pub returns : goal.returns
returns c = euc_jp_law
