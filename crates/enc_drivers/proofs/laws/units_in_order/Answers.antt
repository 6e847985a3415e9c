use Rattle.enc_drivers.proofs.UnitLemmas.{units_nil, units_some}
use Rattle.enc_drivers.proofs.laws.units_in_order.Goals as goal

pub returns-clause-none : goal.returns-clause-none
returns-clause-none c = units_nil

pub returns-clause-some : goal.returns-clause-some
returns-clause-some c = units_some
