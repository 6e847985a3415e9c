use Rattle.enc_drivers.proofs.EncodeSteps.{encodes_more}
use Rattle.enc_drivers.proofs.TextScalars.{scalars_behind}
use Rattle.enc_drivers.proofs.encoders.encode_ascii.Goals as goal

pub returns-in-Some-clause-goes : goal.returns-in-Some-clause-goes
returns-in-Some-clause-goes g c = encodes_more g.T.TextSlice.scalars (g.C.EncodeCode.bytes c.args.code.now) _ _ _ _ _ _ _ c.loop-result.invariant c.in-Some.ensures.goes

pub returns-in-Some-encode_characters-clause-goes : goal.returns-in-Some-encode_characters-clause-goes
returns-in-Some-encode_characters-clause-goes g c =
    encodes_more g.T.TextSlice.scalars (g.C.EncodeCode.bytes c.args.code.now) _ _ _ _ _ _ _
    (encodes_more g.T.TextSlice.scalars (g.C.EncodeCode.bytes c.args.code.now) _ _ _ _ _ _ _ c.loop-result.invariant c.in-None.ensures.goes)
    c.in-Some-encode_characters.ensures.goes

pub loop-result-preserved : goal.loop-result-preserved
loop-result-preserved g c =
    encodes_more g.T.TextSlice.scalars (g.C.EncodeCode.bytes c.args.code.now) _ _ _ _ _ _ _
    (encodes_more g.T.TextSlice.scalars (g.C.EncodeCode.bytes c.args.code.now) _ _ _ _ _ _ _ c.loop-result.invariant c.in-None.ensures.goes)
    c.in-None-encode_characters.ensures.goes

pub encode_runs-requires-clause-scalars : goal.encode_runs-requires-clause-scalars
encode_runs-requires-clause-scalars g c =
    scalars_behind g.T.TextSlice.scalars (g.C.EncodeCode.bytes c.args.code.now) _ _ _ _ _ c.loop-result.invariant c.requires.scalars
