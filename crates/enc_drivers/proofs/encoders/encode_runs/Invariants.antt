use Rattle.std.proofs.Common.{[]}
use Rattle.enc_handles.specs.ByteDestination.{writing}
use Rattle.enc_handles.specs.CharSource.{reading}
use Rattle.enc_drivers.specs.Encoding.{Encodes, scalars_left}
use Rattle.enc_drivers.proofs.encoders.encode_runs.Given as goal

abbrev pub invariant-loop-scalar : goal.invariant-loop-scalar
invariant-loop-scalar g l =
    Encodes g.T.TextSlice.scalars (g.C.EncodeCode.bytes l.code) (reading l.initial.source) (reading l.source) (writing l.initial.dest) (writing l.dest) []

abbrev pub decreases-loop-scalar : goal.decreases-loop-scalar
decreases-loop-scalar g l = scalars_left g.T.TextSlice.scalars (reading l.source)
