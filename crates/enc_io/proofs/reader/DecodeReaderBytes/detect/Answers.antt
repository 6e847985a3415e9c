use Rattle.std.proofs.Common.{[]}
use Rattle.enc_io.proofs.PeekerLemmas.{gathered_few}
use Rattle.enc_io.proofs.ReaderLemmas.{goes_trans, goes_nowhere}
use Rattle.enc_io.proofs.reader.DecodeReaderBytes.detect.Goals as goal

pub returns-then-self-clause-does : goal.returns-then-self-clause-does
returns-then-self-clause-does g c =
    let bom = c.args.self.now.rdr.bom in
    goes_nowhere _ (gathered_few bom.bytes bom.len bom.within) c.requires

pub returns-clause-does : goal.returns-clause-does
returns-clause-does g c = goes_trans _ _ _ [] [] c.in_default.ensures.does c.choose.ensures.goes_on
