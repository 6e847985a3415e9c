use Rattle.std.proofs.Common.{rules, ℕ, arith, ap, [], Err, ◌∙◌}
use Rattle.std.specs.Prelude.{is_some}
use Rattle.enc_io.specs.ReaderView.{standing_of}
use Rattle.enc_io.proofs.ReaderLemmas.{goes_trans, goes_none, does_trans, turn_falls}
use Rattle.enc_io.proofs.reader.DecodeReaderBytes.transcode.Goals as goal

pub returns-then-count-gt0-2-clause-does : goal.returns-then-count-gt0-2-clause-does
returns-then-count-gt0-2-clause-does g c = goes_trans _ _ _ [] _ c.loop-count.invariant.goes_on c.decode_into-count.ensures.goes_on

pub returns-in-Err-clause-does : goal.returns-in-Err-clause-does
returns-in-Err-clause-does g c =
    does_trans {A = ℕ} _ _ _ [] (Err c.in-Err.error)
    (goes_trans _ _ _ [] [] c.loop-count.invariant.goes_on (goes_none _ _ _ _ (omega arith) c.decode_into-count.ensures.goes_on)) c.in-Err.ensures.does

pub loop-count-preserved : goal.loop-count-preserved
loop-count-preserved g c =
    let fill = c.fill.ensures.same in
    record {
      same_length = search rules;
      goes_on = goes_trans _ _ _ [] [] (goes_trans _ _ _ [] [] c.loop-count.invariant.goes_on (goes_none _ _ _ _ (omega arith) c.decode_into-count.ensures.goes_on)) c.in_default.ensures.does;
      detected = fill.0;
      some = ap is_some fill.1 ∙ c.decode_into-count.ensures.some;
      none_waits = fill.2;
    }

pub loop-count-smaller : goal.loop-count-smaller
loop-count-smaller g c =
    turn_falls (standing_of c.loop-count.self) (standing_of c.decode_into-count.new.self) (standing_of c.fill.new.self) c.decode_into-count.ensures.same (c.decode_into-count.ensures.none (omega arith)).buffered c.in_default.ensures.turns c.in_default.ensures.falls
    (c.is_at_end-last.ensures.no c.if-last.false)
