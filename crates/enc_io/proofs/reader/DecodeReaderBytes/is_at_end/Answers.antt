use Rattle.std.proofs.Common.{arith, ap, length}
use Rattle.enc_io.proofs.ReaderLemmas.{buffered_length}
use Rattle.enc_io.proofs.reader.DecodeReaderBytes.is_at_end.Goals as goal

pub returns-then-self-clause-no : goal.returns-then-self-clause-no
returns-then-self-clause-no g c = λ e empty all.
    let self = c.args.self.now in
    omega (arith, buffered_length self.pos self.buflen self.buf.items self.buf_within, ap length empty)
