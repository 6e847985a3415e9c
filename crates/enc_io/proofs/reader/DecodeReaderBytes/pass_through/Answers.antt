use Rattle.std.proofs.Common.{arith, refl, ap, ◌≡◌}
use Rattle.enc_front.specs.DecoderView as decoder
use Rattle.enc_io.proofs.PeekerLemmas.{gathered_few}
use Rattle.enc_io.proofs.ReaderLemmas.{moves_pass, goes_moved, passes_moved, faults_moved, given_bytes, keeps_nothing, none_there}
use Rattle.enc_io.proofs.reader.DecodeReaderBytes.pass_through.Goals as goal

pub returns-else-self-most-clause-does : goal.returns-else-self-most-clause-does
returns-else-self-most-clause-does g c =
    let self = c.args.self.now in
    let call = c.in-Ok.ensures in
    let none = self.passes (none_there decoder.standing_of self.decoder c.requires.none) in
    goes_moved _ _ _ _
    (moves_pass _ _ _ _ call.next c.requires.detected none.0 none.1 c.requires.none refl refl (omega arith) (gathered_few self.rdr.bom.bytes self.rdr.bom.len self.rdr.bom.within)
    call.three (λ e. (call.still_ended e, ap g.S.Source.calls (call.after_end e))) call.silent)
    call.counted refl call.calls call.calls_on (omega arith)

pub returns-else-self-most-clause-end : goal.returns-else-self-most-clause-end
returns-else-self-most-clause-end g c = λ e.
    let self = c.args.self.now in
    let none = self.passes (none_there decoder.standing_of self.decoder c.requires.none) in
    let zero : c.in-Ok.count ≡ 0 = cc in
    let all = c.in-Ok.ensures.all zero in
    given_bytes _ c.requires.detected none.0 none.1 c.requires.none all.waiting all.ended

pub returns-then-self-most-clause-does : goal.returns-then-self-most-clause-does
returns-then-self-most-clause-does g c =
    let self = c.args.self.now in
    let call = c.in-Ok.ensures in
    let none = self.passes (none_there decoder.standing_of self.decoder c.requires.none) in
    passes_moved _ _ _ _
    (moves_pass _ _ _ _ call.next c.requires.detected none.0 none.1 c.requires.none refl refl (omega arith) (gathered_few self.rdr.bom.bytes self.rdr.bom.len self.rdr.bom.within)
    call.three (λ e. (call.still_ended e, ap g.S.Source.calls (call.after_end e))) call.silent)
    call.counted refl call.calls (omega arith) (omega arith)

pub returns-in-Err-clause-does : goal.returns-in-Err-clause-does
returns-in-Err-clause-does g c =
    let self = c.args.self.now in
    let call = c.in-Err.ensures in
    let none = self.passes (none_there decoder.standing_of self.decoder c.requires.none) in
    faults_moved _ _ _
    (moves_pass _ _ _ _ call.next c.requires.detected none.0 none.1 c.requires.none refl (omega arith) (omega arith) (gathered_few self.rdr.bom.bytes self.rdr.bom.len self.rdr.bom.within)
    call.three (λ e. (call.still_ended e, ap g.S.Source.calls (call.after_end e))) call.silent)
    call.failed (omega arith) call.calls c.requires.within call.not_ended (keeps_nothing _ c.requires.detected none.0 none.1 c.requires.none call.none_waits)
