use Rattle.enc_drivers.specs.Lemmas.SingleByteLaw.{single_byte_law}
use Rattle.enc_drivers.proofs.codes.single_byte.is_code.Goals as goal

pub returns : goal.returns
returns c = single_byte_law
