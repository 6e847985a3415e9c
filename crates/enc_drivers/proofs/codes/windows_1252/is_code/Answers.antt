use Rattle.enc_drivers.specs.Lemmas.SingleByteLaw.{windows_1252_law}
use Rattle.enc_drivers.proofs.codes.windows_1252.is_code.Goals as goal

pub returns : goal.returns
returns c = windows_1252_law
