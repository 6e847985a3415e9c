use Rattle.enc_drivers.specs.Lemmas.Big5Law.{big5_ascii}
use Rattle.enc_drivers.proofs.codes.big5.keeps_ascii.Goals as goal

pub returns : goal.returns
returns c = big5_ascii
