use Rattle.enc_drivers.proofs.ReadBack.{windows_1252_read}
use Rattle.enc_drivers.proofs.codes.windows_1252.scalars_read_back.Goals as goal

pub returns : goal.returns
returns c = windows_1252_read
