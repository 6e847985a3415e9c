use Rattle.std.proofs.Common.{arith}
use Rattle.enc_io.proofs.BoundLemmas.{small_reader}
use Rattle.enc_io.proofs.PeekerLemmas.{gathered_few}
use Rattle.enc_io.proofs.ReaderLemmas.{passes_nowhere, does_trans}
use Rattle.enc_io.proofs.reader.DecodeReaderBytes.read.Goals as goal

pub returns-then-self-most-clause-does : goal.returns-then-self-most-clause-does
returns-then-self-most-clause-does g c = λ room.
    let bom = c.args.self.now.rdr.bom in
    passes_nowhere _ (gathered_few bom.bytes bom.len bom.within) (omega arith) c.args.self.now.at_most

pub returns-then-is_none-clause-does : goal.returns-then-is_none-clause-does
returns-then-is_none-clause-does g c = λ room. does_trans _ _ _ _ c.pass_through.result c.in_default.ensures.does c.pass_through.ensures.does

pub returns-clause-does : goal.returns-clause-does
returns-clause-does g c = λ room. does_trans _ _ _ _ c.transcode.result c.in_default.ensures.does c.transcode.ensures.does

pub returns-then-is_empty-clause-small : goal.returns-then-is_empty-clause-small
returns-then-is_empty-clause-small g c = small_reader c.args.self.now

pub returns-then-self-most-clause-small : goal.returns-then-self-most-clause-small
returns-then-self-most-clause-small g c = small_reader c.args.self.now

pub returns-in-Err-clause-small : goal.returns-in-Err-clause-small
returns-in-Err-clause-small g c = small_reader c.detect.new.self

pub returns-then-is_none-clause-small : goal.returns-then-is_none-clause-small
returns-then-is_none-clause-small g c = small_reader c.pass_through.new.self

pub returns-clause-small : goal.returns-clause-small
returns-clause-small g c = small_reader c.transcode.new.self
