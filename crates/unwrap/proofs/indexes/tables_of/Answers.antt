use Rattle.std.proofs.Common.{length, ap, arith}
use Rattle.unwrap.proofs.FilesTaken.{length_map, stands_at, took_all, took_more, took_refused}
use Rattle.unwrap.proofs.indexes.tables_of.Goals as goal

pub returns-in-Err-clause-makes : goal.returns-in-Err-clause-makes
returns-in-Err-clause-makes g c =
    took_refused _ _ _ _ _ _ _ _ _ _ c.loop-number.number _ _ _ (stands_at c.args.files.now c.loop-number.number _ (omega arith)) c.loop-number.invariant.took
    c.in-Err.ensures.same c.in-Err.ensures.called c.in-Err.ensures.adds

pub loop-number-preserved : goal.loop-number-preserved
loop-number-preserved g c =
    let stands = stands_at c.args.files.now c.loop-number.number _ (omega arith) in
    record {
      took = took_more _ _ _ _ _ _ _ _ _ _ c.loop-number.number _ _ _ stands c.loop-number.invariant.took c.in-Ok.ensures.same c.in-Ok.ensures.called c.in-Ok.ensures.adds;
      kept = λ none. absurd (let inside = stands.within in let empty = ap length none in omega (arith, inside, empty));
    }

pub returns-clause-makes : goal.returns-clause-makes
returns-clause-makes g c =
    took_all _ _ _ _ _ _ _ c.loop-number.number c.loop-number.tables (let same = length_map c.args.files.now in omega (arith, same)) c.loop-number.invariant.took
