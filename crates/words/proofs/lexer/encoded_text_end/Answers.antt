use Rattle.words.proofs.Fields.{text-end}
use Rattle.words.proofs.lexer.encoded_text_end.Goals as goal

pub returns : goal.returns
returns c = text-end c.args.bytes.now c.memchr2.result c.memchr2.ensures
