use Rattle.enc_drivers.proofs.CallLemmas.{short_units_law}
use Rattle.enc_drivers.proofs.laws.short_units.Goals as goal

pub returns : goal.returns
returns c = short_units_law
