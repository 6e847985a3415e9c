use Rattle.enc_drivers.proofs.CallLemmas.{joined_calls_law}
use Rattle.enc_drivers.proofs.laws.joined_calls.Goals as goal

pub returns : goal.returns
returns c = joined_calls_law
