use Rattle.enc_drivers.proofs.EncodedRanges.{utf8_ascii}
use Rattle.enc_drivers.proofs.codes.utf8.encoder_keeps_ascii.Goals as goal

pub returns : goal.returns
returns c = utf8_ascii
