use Rattle.enc_drivers.specs.Lemmas.SingleByteLaw.{user_defined_law}
use Rattle.enc_drivers.proofs.codes.user_defined.is_code.Goals as goal

pub returns : goal.returns
returns c = user_defined_law
