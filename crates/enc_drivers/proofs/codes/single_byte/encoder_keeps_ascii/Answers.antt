use Rattle.enc_drivers.proofs.EncodedRanges.{single_byte_ascii}
use Rattle.enc_drivers.proofs.codes.single_byte.encoder_keeps_ascii.Goals as goal

pub returns : goal.returns
returns c = single_byte_ascii
