use Rattle.enc_drivers.proofs.EncodeSteps.{encodes_more}
use Rattle.enc_drivers.proofs.encoders.encode_characters.Goals as goal

pub returns-then-begins_run-clause-goes : goal.returns-then-begins_run-clause-goes
returns-then-begins_run-clause-goes g c = encodes_more g.T.TextSlice.scalars (g.C.EncodeCode.bytes c.args.code.now) _ _ _ _ _ _ _ c.loop-scalar.invariant c.in-Ok.ensures.goes

pub loop-scalar-preserved : goal.loop-scalar-preserved
loop-scalar-preserved g c = encodes_more g.T.TextSlice.scalars (g.C.EncodeCode.bytes c.args.code.now) _ _ _ _ _ _ _ c.loop-scalar.invariant c.in-Ok.ensures.goes

pub returns-in-Err-clause-goes : goal.returns-in-Err-clause-goes
returns-in-Err-clause-goes g c = encodes_more g.T.TextSlice.scalars (g.C.EncodeCode.bytes c.args.code.now) _ _ _ _ _ _ _ c.loop-scalar.invariant c.in-Err.ensures.goes
