use Rattle.enc_drivers.specs.Lemmas.Utf8Law.{utf8_law}
use Rattle.enc_drivers.proofs.codes.utf8.is_code.Goals as goal

pub returns : goal.returns
returns c = utf8_law
