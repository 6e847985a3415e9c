use Rattle.std.proofs.Common.{arith}
use Rattle.unwrap.proofs.Appended.{error_more}
use Rattle.unwrap.proofs.moving.read_all.Goals as goal

pub returns-in-Err-clause-errors : goal.returns-in-Err-clause-errors
returns-in-Err-clause-errors g c =
    error_more _ _ _ c.loop-bytes.bytes.items _ _ _ _ _ c.in-Err.error c.loop-bytes.invariant.moved (omega (arith, c.loop-bytes.bytes.ok.0)) c.loop-bytes.invariant.counted c.in-Err.ensures.errors
