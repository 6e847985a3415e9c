use Rattle.words.proofs.SameValues.{same_parsed}
use Rattle.words.proofs.laws.equality_of_parsed_words.Goals as goal

pub returns : goal.returns
returns c = same_parsed
