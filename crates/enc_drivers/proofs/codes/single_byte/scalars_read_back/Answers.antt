use Rattle.enc_drivers.proofs.ReadBack.{single_byte_read}
use Rattle.enc_drivers.proofs.codes.single_byte.scalars_read_back.Goals as goal

pub returns : goal.returns
returns c = single_byte_read
