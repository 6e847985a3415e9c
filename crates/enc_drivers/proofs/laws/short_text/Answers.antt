use Rattle.enc_drivers.proofs.UnitLemmas.{short_text_law}
use Rattle.enc_drivers.proofs.laws.short_text.Goals as goal

pub returns : goal.returns
returns c = short_text_law
