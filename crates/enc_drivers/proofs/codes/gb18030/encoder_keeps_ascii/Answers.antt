use Rattle.enc_drivers.proofs.EncodedRanges.{gb18030_ascii}
use Rattle.enc_drivers.proofs.codes.gb18030.encoder_keeps_ascii.Goals as goal

pub returns : goal.returns
returns c = gb18030_ascii
