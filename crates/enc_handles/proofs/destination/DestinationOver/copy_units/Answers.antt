use Rattle.std.proofs.Common.{◌++◌}
use Rattle.enc_handles.specs.Destination.{writing}
use Rattle.enc_handles.specs.Unaligned.{units_in}
use Rattle.enc_handles.proofs.CopyUtf16.{copied16_on, rest_fits}
use Rattle.enc_handles.proofs.destination.DestinationOver.copy_units.Goals as goal

pub move_units-requires-clause-fits : goal.move_units-requires-clause-fits
move_units-requires-clause-fits g c =
    let window = units_in g.E.Endian.OPPOSITE_ENDIAN c.args.units in
    rest_fits g.S.UnitSlice.encode window g.S.UnitSlice.utf16_room (writing c.args.self.now) (writing c.loop-read.self) c.loop-read.read c.loop-read.invariant.0
    c.requires c.loop-read.invariant.1

pub loop-read-preserved : goal.loop-read-preserved
loop-read-preserved g c =
    let window = units_in g.E.Endian.OPPOSITE_ENDIAN c.args.units in
    let moved = c.in-Some.ensures.moved in (
      c.loop-read.invariant.0 ++ moved.scalars,
      copied16_on g.S.UnitSlice.encode window g.S.UnitSlice.utf16_room (writing c.args.self.now) (writing c.loop-read.self) _ c.loop-read.read c.in-Some.next
          c.loop-read.invariant.0 c.loop-read.invariant.1 moved,
    )
