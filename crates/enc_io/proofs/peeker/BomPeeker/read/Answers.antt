use Rattle.std.proofs.Common.{Ok, arith, length, length-take-le, ap}
use Rattle.enc_io.specs.declared.outside.Failed.{Failed}
use Rattle.enc_io.proofs.PeekerLemmas.{moves_nothing, moves_next, known_read, at_end, gathered_few, calls_read}
use Rattle.enc_io.proofs.peeker.BomPeeker.read.Goals as goal

pub returns-then-is_empty-clause-moves : goal.returns-then-is_empty-clause-moves
returns-then-is_empty-clause-moves g c =
    let bom = c.args.self.now.bom in
    moves_nothing _ _ (gathered_few bom.bytes bom.len bom.within)

pub returns-in-Ok-clause-moves : goal.returns-in-Ok-clause-moves
returns-in-Ok-clause-moves g c =
    moves_next _ _ _ _ _ _ _ _ c.peek_bom.ensures.moves c.in-Ok.ensures.next c.in_default.ensures.peeked c.in-Ok.ensures.still_peeked
    c.in_default.ensures.three c.in-Ok.ensures.still_ended

pub returns-in-Ok-clause-moved : goal.returns-in-Ok-clause-moved
returns-in-Ok-clause-moved g c =
    known_read {E = Failed} _ _ _ _ (Ok c.in-Ok.count) c.read_within.new.buf (returns-in-Ok-clause-moves g c) (λ e. at_end _ (c.read_within.new.self.end e)) (λ none room. c.in-Ok.ensures.all none)

pub returns-in-Ok-clause-calls : goal.returns-in-Ok-clause-calls
returns-in-Ok-clause-calls g c =
    calls_read c.peek_bom.new.self.ended _ _ _ _ _ _ _ _ c.peek_bom.ensures.calls c.in_default.ensures.calls_whole (λ e. ap g.S.Source.calls (c.read_within.ensures.after_end e))
    c.in-Ok.ensures.calls (omega (arith, c.in-Ok.ensures.most.1, length-take-le c.in-Ok.count c.read_within.new.buf c.in-Ok.ensures.within)) (ap length c.in-Ok.ensures.next.same_gathered)

pub returns-in-Err-read_within-clause-moves : goal.returns-in-Err-read_within-clause-moves
returns-in-Err-read_within-clause-moves g c =
    moves_next _ _ _ _ _ _ _ _ c.peek_bom.ensures.moves c.in-Err-read_within.ensures.next c.in_default.ensures.peeked c.in-Err-read_within.ensures.still_peeked
    c.in_default.ensures.three c.in-Err-read_within.ensures.still_ended

pub returns-in-Err-read_within-clause-calls : goal.returns-in-Err-read_within-clause-calls
returns-in-Err-read_within-clause-calls g c =
    calls_read c.peek_bom.new.self.ended _ _ _ _ _ _ _ _ c.peek_bom.ensures.calls c.in_default.ensures.calls_whole (λ e. ap g.S.Source.calls (c.read_within.ensures.after_end e))
    c.in-Err-read_within.ensures.calls (omega arith) (ap length c.in-Err-read_within.ensures.next.same_gathered)
