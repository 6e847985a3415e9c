use Rattle.enc_drivers.proofs.EncodedRanges.{user_defined_ascii}
use Rattle.enc_drivers.proofs.codes.user_defined.encoder_keeps_ascii.Goals as goal

pub returns : goal.returns
returns c = user_defined_ascii
