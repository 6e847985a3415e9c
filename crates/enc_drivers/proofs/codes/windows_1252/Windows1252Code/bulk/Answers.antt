use Rattle.enc_drivers.proofs.OneByte.{windows_1252_ascii}
use Rattle.enc_drivers.proofs.codes.windows_1252.Windows1252Code.bulk.Goals as goal

pub returns : goal.returns
returns c = windows_1252_ascii
