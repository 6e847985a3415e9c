use Rattle.enc_drivers.proofs.EncodedRanges.{user_defined_narrow}
use Rattle.enc_drivers.proofs.codes.user_defined.encoder_without_astral.Goals as goal

pub returns : goal.returns
returns c = user_defined_narrow
