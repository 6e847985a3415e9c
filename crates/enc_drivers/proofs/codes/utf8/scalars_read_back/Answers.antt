use Rattle.enc_drivers.proofs.ReadBack.{utf8_read}
use Rattle.enc_drivers.proofs.codes.utf8.scalars_read_back.Goals as goal

pub returns : goal.returns
returns c = utf8_read
