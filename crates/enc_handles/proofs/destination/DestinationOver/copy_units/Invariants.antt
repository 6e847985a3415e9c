use Rattle.std.proofs.Common.{◌-◌, ℕ, List}
use Rattle.enc_handles.specs.Destination.{writing}
use Rattle.enc_handles.specs.Unaligned.{units_in}
use Rattle.enc_handles.proofs.CopyUtf16.{Copied16}
use Rattle.enc_handles.proofs.destination.DestinationOver.copy_units.Given as goal

abbrev pub invariant-loop-read : goal.invariant-loop-read
invariant-loop-read g l =
    let window = units_in g.E.Endian.OPPOSITE_ENDIAN l.units in
    (scalars : List ℕ) × Copied16 g.S.UnitSlice.encode window g.S.UnitSlice.utf16_room (writing l.initial.self) (writing l.self) l.read scalars

abbrev pub decreases-loop-read : goal.decreases-loop-read
decreases-loop-read g l = l.len - l.read
