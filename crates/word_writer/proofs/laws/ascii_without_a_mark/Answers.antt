use Rattle.word_writer.specs.Written.{written}
use Rattle.word_writer.proofs.Lines.{in-ascii, no-mark, own-stream}
use Rattle.word_writer.proofs.laws.ascii_without_a_mark.Goals as goal

pub returns : goal.returns
returns c = record {
  ascii = in-ascii;
  no_mark = no-mark;
  stream_text = λ indexes text utf8. own-stream indexes (written text) (no-mark text utf8);
}
