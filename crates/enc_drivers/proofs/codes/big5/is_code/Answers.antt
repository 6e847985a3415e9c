use Rattle.enc_drivers.specs.Lemmas.Big5Law.{big5_law}
use Rattle.enc_drivers.proofs.codes.big5.is_code.Goals as goal

pub returns : goal.returns
returns c = big5_law
