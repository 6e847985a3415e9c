use Rattle.std.proofs.Common.{arith, refl, sym, ap, subst, ◌∙◌, take, length, length-take-le, true≢false}
use Rattle.enc_front.specs.DecoderView as decoder
use Rattle.enc_io.specs.BuilderView.{options_of}
use Rattle.enc_io.specs.Text.{chosen}
use Rattle.std.proofs.lemmas.List.{with_items_is}
use Rattle.enc_io.specs.Peeker.{GivesNext}
use Rattle.enc_io.specs.Peeking.{standing_of, source_of}
use Rattle.enc_io.proofs.PeekerLemmas.{gathered_few}
use Rattle.enc_io.proofs.ReaderLemmas.{moves_buffer, goes_moved, passes_moved, faults_moved, fill_turns, keeps_held, some_there}
use Rattle.enc_io.proofs.reader.DecodeReaderBytes.fill.Goals as goal

pub returns-else-self-most-clause-does : goal.returns-else-self-most-clause-does
returns-else-self-most-clause-does g c =
    let self = c.args.self.now in
    let call = c.in-Ok.ensures in
    let writes = with_items_is self.buf c.read_within.new.buf (omega (arith, call.len, c.deref_mut.ensures.len, self.buf.ok.0)) in
    let next = subst (λ l. GivesNext (g.S.Source.left (source_of self.rdr)) (g.S.Source.left (source_of c.read_within.new.self)) (standing_of self.rdr) (standing_of c.read_within.new.self)
    (take c.in-Ok.count l) c.in-Ok.taken) (sym writes) call.next in
    goes_moved _ _ _ _
    (moves_buffer _ _ _ next c.requires.detected c.requires.undecided.tiny c.requires.undecided.buffered refl (omega (arith, ap length writes, call.len, c.deref_mut.ensures.len)) refl (omega arith)
    (gathered_few self.rdr.bom.bytes self.rdr.bom.len self.rdr.bom.within) call.three
    (λ e. (call.still_ended e, ap g.S.Source.calls (call.after_end e))) call.silent)
    call.counted refl call.calls call.calls_on (omega arith)

pub returns-then-self-most-clause-does : goal.returns-then-self-most-clause-does
returns-then-self-most-clause-does g c =
    let self = c.args.self.now in
    let call = c.in-Ok.ensures in
    let writes = with_items_is self.buf c.read_within.new.buf (omega (arith, call.len, c.deref_mut.ensures.len, self.buf.ok.0)) in
    let next = subst (λ l. GivesNext (g.S.Source.left (source_of self.rdr)) (g.S.Source.left (source_of c.read_within.new.self)) (standing_of self.rdr) (standing_of c.read_within.new.self)
    (take c.in-Ok.count l) c.in-Ok.taken) (sym writes) call.next in
    passes_moved _ _ _ _
    (moves_buffer _ _ _ next c.requires.detected c.requires.undecided.tiny c.requires.undecided.buffered refl (omega (arith, ap length writes, call.len, c.deref_mut.ensures.len)) refl (omega (arith, call.most.0, c.most.ensures.value))
    (gathered_few self.rdr.bom.bytes self.rdr.bom.len self.rdr.bom.within) call.three
    (λ e. (call.still_ended e, ap g.S.Source.calls (call.after_end e))) call.silent)
    call.counted refl call.calls (omega arith) (omega (arith, call.most.0, c.most.ensures.value))

pub returns-in-Err-clause-does : goal.returns-in-Err-clause-does
returns-in-Err-clause-does g c =
    let self = c.args.self.now in
    let call = c.in-Err.ensures in
    let writes = with_items_is self.buf c.read_within.new.buf (omega (arith, call.len, c.deref_mut.ensures.len, self.buf.ok.0)) in
    let some = some_there decoder.standing_of self.decoder c.requires.some in
    faults_moved _ _ _
    (moves_buffer _ _ _ call.next c.requires.detected c.requires.undecided.tiny c.requires.undecided.buffered refl (omega (arith, ap length writes, call.len, c.deref_mut.ensures.len)) (omega arith) (omega (arith, c.requires.within))
    (gathered_few self.rdr.bom.bytes self.rdr.bom.len self.rdr.bom.within) call.three
    (λ e. (call.still_ended e, ap g.S.Source.calls (call.after_end e))) call.silent)
    call.failed (omega arith) call.calls c.requires.within call.not_ended
    (keeps_held _ c.requires.detected (record { tiny = c.requires.undecided.tiny; buffered = refl; held = c.requires.undecided.held }) call.none_waits
    (λ none. absurd (true≢false (sym some ∙ self.decodes c.requires.detected (ap (chosen (options_of self.options)) (sym call.next.same_gathered) ∙ none)))))

pub returns-else-self-most-clause-turns : goal.returns-else-self-most-clause-turns
returns-else-self-most-clause-turns g c =
    let self = c.args.self.now in
    let call = c.in-Ok.ensures in
    let writes = with_items_is self.buf c.read_within.new.buf (omega (arith, call.len, c.deref_mut.ensures.len, self.buf.ok.0)) in
    let next = subst (λ l. GivesNext (g.S.Source.left (source_of self.rdr)) (g.S.Source.left (source_of c.read_within.new.self)) (standing_of self.rdr) (standing_of c.read_within.new.self)
    (take c.in-Ok.count l) c.in-Ok.taken) (sym writes) call.next in
    (fill_turns _ _ _ _ _ _ self.options.limit _ _ _ next c.requires.undecided.buffered (self.has_front c.requires.detected) refl (omega arith) call.still_ended
    (λ none. call.all (omega (arith, none, ap (λ l. length (take c.in-Ok.count l)) writes, length-take-le c.in-Ok.count c.read_within.new.buf call.within)))).0

pub returns-else-self-most-clause-falls : goal.returns-else-self-most-clause-falls
returns-else-self-most-clause-falls g c =
    let self = c.args.self.now in
    let call = c.in-Ok.ensures in
    let writes = with_items_is self.buf c.read_within.new.buf (omega (arith, call.len, c.deref_mut.ensures.len, self.buf.ok.0)) in
    let next = subst (λ l. GivesNext (g.S.Source.left (source_of self.rdr)) (g.S.Source.left (source_of c.read_within.new.self)) (standing_of self.rdr) (standing_of c.read_within.new.self)
    (take c.in-Ok.count l) c.in-Ok.taken) (sym writes) call.next in
    (fill_turns _ _ _ _ _ _ self.options.limit _ _ _ next c.requires.undecided.buffered (self.has_front c.requires.detected) refl (omega arith) call.still_ended
    (λ none. call.all (omega (arith, none, ap (λ l. length (take c.in-Ok.count l)) writes, length-take-le c.in-Ok.count c.read_within.new.buf call.within)))).1
