use Rattle.enc_drivers.proofs.EncodedRanges.{windows_1252_narrow}
use Rattle.enc_drivers.proofs.codes.windows_1252.encoder_without_astral.Goals as goal

pub returns : goal.returns
returns c = windows_1252_narrow
