use Rattle.enc_drivers.specs.Lemmas.ShiftJisLaw.{shift_jis_ascii}
use Rattle.enc_drivers.proofs.codes.shift_jis.keeps_ascii.Goals as goal

pub returns : goal.returns
returns c = shift_jis_ascii
