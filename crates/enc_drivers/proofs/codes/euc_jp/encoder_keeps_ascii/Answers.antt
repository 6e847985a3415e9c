use Rattle.enc_drivers.proofs.EncodedRanges.{euc_jp_ascii}
use Rattle.enc_drivers.proofs.codes.euc_jp.encoder_keeps_ascii.Goals as goal

pub returns : goal.returns
returns c = euc_jp_ascii
