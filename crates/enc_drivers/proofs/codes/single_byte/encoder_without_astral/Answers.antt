use Rattle.enc_drivers.proofs.EncodedRanges.{single_byte_narrow}
use Rattle.enc_drivers.proofs.codes.single_byte.encoder_without_astral.Goals as goal

pub returns : goal.returns
returns c = single_byte_narrow
