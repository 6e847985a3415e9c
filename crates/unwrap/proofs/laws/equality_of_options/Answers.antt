use Rattle.std.proofs.Common.{rules}
use Rattle.unwrap.proofs.Equalities.{options_decide}
use Rattle.unwrap.proofs.laws.equality_of_options.Goals as goal

pub returns : goal.returns
returns c = options_decide _ (search rules)
