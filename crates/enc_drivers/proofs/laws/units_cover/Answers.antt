use Rattle.enc_drivers.proofs.UnitLemmas.{units_cover_law}
use Rattle.enc_drivers.proofs.laws.units_cover.Goals as goal

pub returns : goal.returns
returns c = units_cover_law
