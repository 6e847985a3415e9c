use Rattle.enc_drivers.proofs.CallLemmas.{short_call_law}
use Rattle.enc_drivers.proofs.laws.short_call.Goals as goal

pub returns : goal.returns
returns c = short_call_law
