use Rattle.unwrap.specs.Values.{kind_of, kind_words}
use Rattle.unwrap.proofs.command_line.kinds.kind_of.Goals as goal

pub returns : goal.returns
unfolding kind_of kind_words
returns c = c.kind_in.ensures
