use Rattle.word_writer.proofs.Lines.{short-lines}
use Rattle.word_writer.proofs.ReadBack.{no-long}
use Rattle.word_writer.proofs.laws.short_words_and_lines.Goals as goal

pub returns : goal.returns
returns c = record { words = no-long; lines = short-lines }
