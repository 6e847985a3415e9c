use Rattle.enc_drivers.proofs.EncodedRanges.{euc_kr_narrow}
use Rattle.enc_drivers.proofs.codes.euc_kr.encoder_without_astral.Goals as goal

pub returns : goal.returns
returns c = euc_kr_narrow
