use Rattle.std.proofs.Common.{◌++◌, sym, ap, ◌∙◌}
use Rattle.word_writer.specs.Written.{words_of}
use Rattle.word_writer.proofs.Cutting.{plain-is, words-are, some-text}
use Rattle.word_writer.proofs.writer.write_words.Goals as goal

pub returns-then-is_plain : goal.returns-then-is_plain
returns-then-is_plain c = c.in_ok-value.ensures.ok ∙ sym (plain-is c.args.text.now (sym c.if-is_plain.ensures))

pub push_words-requires : goal.push_words-requires
push_words-requires c = some-text c.args.text.now (sym c.if-is_plain.ensures)

pub returns : goal.returns
returns c = c.in_ok-push_words.ensures ∙ ap (λ l. l ++ words_of c.args.text.now) c.in_ok-value-2.ensures.bytes ∙ sym (words-are c.args.text.now (sym c.if-is_plain.ensures))
