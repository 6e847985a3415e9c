use Rattle.std.proofs.Common.{ℕ, List, length}
use Rattle.enc_handles.specs.ByteSource.{reading}
use Rattle.enc_handles.specs.Destination.{writing}
use Rattle.enc_handles.specs.Reading.{left}
use Rattle.enc_handles.specs.Copies.{Copied}
use Rattle.enc_handles.proofs.destination.DestinationOverDestination.copy_utf8_up_to_invalid_from.Given as goal

abbrev pub invariant-loop-bytes : goal.invariant-loop-bytes
invariant-loop-bytes g l =
    (scalars : List ℕ) × Copied g.S.UnitSlice.encode (reading l.fn.source) (reading l.source) (writing l.fn.self) (writing l.self) scalars

abbrev pub decreases-loop-bytes : goal.decreases-loop-bytes
decreases-loop-bytes g l = length (left (reading l.source))
