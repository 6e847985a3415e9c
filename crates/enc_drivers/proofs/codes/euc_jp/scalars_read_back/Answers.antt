use Rattle.enc_drivers.proofs.ReadBack.{euc_jp_read}
use Rattle.enc_drivers.proofs.codes.euc_jp.scalars_read_back.Goals as goal

pub returns : goal.returns
returns c = euc_jp_read
