use Rattle.enc_drivers.specs.Lemmas.ShiftJisLaw.{shift_jis_law}
use Rattle.enc_drivers.proofs.codes.shift_jis.is_code.Goals as goal

pub returns : goal.returns
returns c = shift_jis_law
