use Rattle.enc_drivers.proofs.EncodedRanges.{euc_jp_narrow}
use Rattle.enc_drivers.proofs.codes.euc_jp.encoder_without_astral.Goals as goal

pub returns : goal.returns
returns c = euc_jp_narrow
