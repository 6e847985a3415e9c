use Rattle.std.proofs.Common.{ap}
use Rattle.std.specs.Option.{option_or}
use Rattle.enc_front.specs.Encoding.{find_label, trimmed_label}
use Rattle.people.specs.Names.{people_label, other_names}
use Rattle.people.proofs.laws.labels_agree.Goals as goal

pub returns : goal.returns
unfolding people_label
returns c = λ name encoding e. ap (λ o. option_or o (find_label other_names (trimmed_label name))) e
