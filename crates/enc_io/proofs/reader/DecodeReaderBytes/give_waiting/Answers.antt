use Rattle.std.proofs.Common.{refl}
use Rattle.enc_io.proofs.PeekerLemmas.{gathered_few}
use Rattle.enc_io.proofs.ReaderLemmas.{goes_waiting}
use Rattle.enc_io.proofs.reader.DecodeReaderBytes.give_waiting.Goals as goal

pub returns-clause-goes_on : goal.returns-clause-goes_on
returns-clause-goes_on g c =
    let bom = c.args.self.now.rdr.bom in
    goes_waiting _ _ _ c.requires.detected refl c.read.ensures.given (gathered_few bom.bytes bom.len bom.within) c.requires.within
