use Rattle.enc_drivers.specs.Lemmas.Gb18030Law.{gb18030_law}
use Rattle.enc_drivers.proofs.codes.gb18030.is_code.Goals as goal

pub returns : goal.returns
returns c = gb18030_law
