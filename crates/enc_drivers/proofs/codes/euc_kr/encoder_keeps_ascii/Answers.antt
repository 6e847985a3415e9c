use Rattle.enc_drivers.proofs.EncodedRanges.{euc_kr_ascii}
use Rattle.enc_drivers.proofs.codes.euc_kr.encoder_keeps_ascii.Goals as goal

pub returns : goal.returns
returns c = euc_kr_ascii
