use Rattle.enc_strides.proofs.UnitLemmas.{ascii_low}
use Rattle.enc_strides.proofs.laws.ascii_is_its_low_bytes.Goals as goal

pub returns : goal.returns
returns c = ascii_low
