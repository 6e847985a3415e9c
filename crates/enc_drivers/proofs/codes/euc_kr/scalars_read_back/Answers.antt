use Rattle.enc_drivers.proofs.ReadBack.{euc_kr_read}
use Rattle.enc_drivers.proofs.codes.euc_kr.scalars_read_back.Goals as goal

pub returns : goal.returns
returns c = euc_kr_read
