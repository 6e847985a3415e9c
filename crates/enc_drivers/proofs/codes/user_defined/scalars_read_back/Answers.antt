use Rattle.enc_drivers.proofs.ReadBack.{user_defined_read}
use Rattle.enc_drivers.proofs.codes.user_defined.scalars_read_back.Goals as goal

pub returns : goal.returns
returns c = user_defined_read
