-- What a destination and its rooms show.
use Rattle.std.specs.Prelude.{◌-◌, take, length}
use Rattle.enc_handles.specs.Writing.{Writing}
use Rattle.enc_handles.specs.declared.unit_slice.UnitSlice.{Ghosts}
use Rattle.enc_handles.specs.declared.destination.DestinationOver.{DestinationOver}

-- the text, the room and the buffer of a destination
abbrev pub writing : {S : Type 0} {g : Ghosts S} → DestinationOver S g → Writing
writing {g} dest = record {
  text = take dest.pos (g.units dest.slice);
  free = length (g.units dest.slice) - dest.pos;
  buffer = g.buffer dest.slice;
}
