use Rattle.enc_drivers.proofs.ReadBack.{gb18030_read}
use Rattle.enc_drivers.proofs.codes.gb18030.scalars_read_back.Goals as goal

pub returns : goal.returns
returns c = gb18030_read
