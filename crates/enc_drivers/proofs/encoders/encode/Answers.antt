use Rattle.enc_drivers.proofs.EncodeSteps.{encodes_more}
use Rattle.enc_drivers.proofs.encoders.encode.Goals as goal

pub returns-in-Err-clause-goes : goal.returns-in-Err-clause-goes
returns-in-Err-clause-goes g c = encodes_more g.T.TextSlice.scalars (g.C.EncodeCode.bytes c.args.code.now) _ _ _ _ _ _ _ c.loop-result.invariant c.in-Err.ensures.goes

pub loop-result-preserved : goal.loop-result-preserved
loop-result-preserved g c = encodes_more g.T.TextSlice.scalars (g.C.EncodeCode.bytes c.args.code.now) _ _ _ _ _ _ _ c.loop-result.invariant c.in-Ok.ensures.goes
