use Rattle.word_writer.proofs.ReadBack.{read-back}
use Rattle.word_writer.proofs.laws.reading_back.Goals as goal

pub returns : goal.returns
returns c = read-back
