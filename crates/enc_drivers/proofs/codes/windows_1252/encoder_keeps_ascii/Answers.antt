use Rattle.enc_drivers.specs.Codes.Windows1252.{windows_1252_places}
use Rattle.enc_drivers.proofs.EncodedRanges.{single_byte_ascii}
use Rattle.enc_drivers.proofs.codes.windows_1252.encoder_keeps_ascii.Goals as goal

pub returns : goal.returns
returns c = single_byte_ascii windows_1252_places
