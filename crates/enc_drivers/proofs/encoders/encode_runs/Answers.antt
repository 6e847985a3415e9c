use Rattle.enc_drivers.proofs.EncodeSteps.{encodes_more}
use Rattle.enc_drivers.proofs.TextScalars.{scalars_behind}
use Rattle.enc_drivers.proofs.encoders.encode_runs.Goals as goal

pub encode_run-requires-clause-scalars : goal.encode_run-requires-clause-scalars
encode_run-requires-clause-scalars g c =
    scalars_behind g.T.TextSlice.scalars (g.C.EncodeCode.bytes c.args.code.now) _ _ _ _ _ c.loop-scalar.invariant c.requires.scalars

pub returns-then-scalar-ge-LATIN_END-clause-goes : goal.returns-then-scalar-ge-LATIN_END-clause-goes
returns-then-scalar-ge-LATIN_END-clause-goes g c =
    encodes_more g.T.TextSlice.scalars (g.C.EncodeCode.bytes c.args.code.now) _ _ _ _ _ _ _ c.loop-scalar.invariant c.in-Ok-Some.ensures.goes

pub loop-scalar-preserved : goal.loop-scalar-preserved
loop-scalar-preserved g c =
    encodes_more g.T.TextSlice.scalars (g.C.EncodeCode.bytes c.args.code.now) _ _ _ _ _ _ _ c.loop-scalar.invariant c.in-Ok-Some.ensures.goes

pub returns-in-Ok-None-clause-goes : goal.returns-in-Ok-None-clause-goes
returns-in-Ok-None-clause-goes g c =
    encodes_more g.T.TextSlice.scalars (g.C.EncodeCode.bytes c.args.code.now) _ _ _ _ _ _ _ c.loop-scalar.invariant c.in-Ok-None.ensures.goes

pub returns-in-Err-clause-goes : goal.returns-in-Err-clause-goes
returns-in-Err-clause-goes g c =
    encodes_more g.T.TextSlice.scalars (g.C.EncodeCode.bytes c.args.code.now) _ _ _ _ _ _ _ c.loop-scalar.invariant c.in-Err.ensures.goes
