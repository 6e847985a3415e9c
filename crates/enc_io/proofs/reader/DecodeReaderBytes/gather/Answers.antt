use Rattle.std.proofs.Common.{arith, refl, sym}
use Rattle.enc_front.specs.DecoderView as decoder
use Rattle.enc_io.proofs.PeekerLemmas.{gathered_few}
use Rattle.enc_io.proofs.ReaderLemmas.{moves_gather, goes_gather, passes_gather, faults_gather, goes_nowhere, keeps_gathered, none_shown}
use Rattle.enc_io.proofs.reader.DecodeReaderBytes.gather.Goals as goal

pub returns-then-is_peeked-clause-does : goal.returns-then-is_peeked-clause-does
returns-then-is_peeked-clause-does g c =
    let bom = c.args.self.now.rdr.bom in
    goes_nowhere _ (gathered_few bom.bytes bom.len bom.within) c.requires.within

pub returns-else-self-most-clause-does : goal.returns-else-self-most-clause-does
returns-else-self-most-clause-does g c =
    let self = c.args.self.now in
    let call = c.in-Ok.ensures in
    let bom = c.gather.new.self.bom in
    let none = self.is_none c.requires.undetected in
    let taken = self.none_taken c.requires.undetected in
    goes_gather _ _
    (moves_gather _ _ call.gathers c.requires.undetected (self.passes none).0 refl taken c.gathered_len-self.ensures (gathered_few bom.bytes bom.len bom.within)
    (omega (arith, call.most, c.gathered_len-self.ensures, c.most.ensures.value)) (self.rdr.not_ended (sym c.if-is_peeked.ensures)) call.silent)
    call.counted taken c.gathered_len-self.ensures call.calls call.calls_full (omega arith)

pub returns-then-self-most-clause-does : goal.returns-then-self-most-clause-does
returns-then-self-most-clause-does g c =
    let self = c.args.self.now in
    let call = c.in-Ok.ensures in
    let bom = c.gather.new.self.bom in
    let none = self.is_none c.requires.undetected in
    let taken = self.none_taken c.requires.undetected in
    passes_gather _ _
    (moves_gather _ _ call.gathers c.requires.undetected (self.passes none).0 refl taken c.gathered_len-self.ensures (gathered_few bom.bytes bom.len bom.within)
    (omega (arith, call.most, c.gathered_len-self.ensures, c.most.ensures.value)) (self.rdr.not_ended (sym c.if-is_peeked.ensures)) call.silent)
    call.counted taken c.gathered_len-self.ensures call.calls (omega arith) (omega (arith, call.most, c.gathered_len-self.ensures, c.most.ensures.value))

pub returns-in-Err-clause-does : goal.returns-in-Err-clause-does
returns-in-Err-clause-does g c =
    let self = c.args.self.now in
    let call = c.in-Err.ensures in
    let bom = c.gather.new.self.bom in
    let undecided = self.is_none c.requires.undetected in
    let none = self.passes undecided in
    let taken = self.none_taken c.requires.undetected in
    let taken' = c.gathered_len-self-in-Err.ensures in
    faults_gather _ _
    (moves_gather _ _ call.gathers c.requires.undetected none.0 refl taken taken' (gathered_few bom.bytes bom.len bom.within)
    (omega (arith, call.most, taken')) (self.rdr.not_ended (sym c.if-is_peeked.ensures)) call.silent)
    call.failed taken taken' call.calls (omega (arith, call.few, taken', c.most.ensures.value)) call.not_ended
    (keeps_gathered _ c.requires.undetected none.0 none.1 (none_shown decoder.standing_of self.decoder undecided) (omega (arith, call.few, taken')) taken')
