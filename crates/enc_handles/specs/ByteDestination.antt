-- What a destination of bytes and its handles show.
use Rattle.std.specs.Prelude.{ℕ, ◌-◌, List, take, drop, length}
use Rattle.std.specs.Borrow.{MutBor}
use Rattle.enc_handles.specs.Writing.{Writing}
use Rattle.enc_handles.specs.declared.byte_buffer.ByteBuffer.{Ghosts}
use Rattle.enc_handles.specs.declared.byte_destination.ByteDestinationOver.{ByteDestinationOver}
use Rattle.enc_handles.specs.declared.byte_destination.ByteOneOver.{ByteOneOver}
use Rattle.enc_handles.specs.declared.byte_destination.ByteTwoOver.{ByteTwoOver}
use Rattle.enc_handles.specs.declared.byte_destination.ByteThreeOver.{ByteThreeOver}
use Rattle.enc_handles.specs.declared.byte_destination.ByteFourOver.{ByteFourOver}

-- the bytes that are written, the room and the buffer of a destination
abbrev pub writing : {D : Type 0} {g : Ghosts D} → ByteDestinationOver D g → Writing
writing {g} dest = record {
  text = take dest.pos (g.bytes dest.slice);
  free = length (g.bytes dest.slice) - dest.pos;
  buffer = g.buffer dest.slice;
}

-- the bytes of the free part
abbrev pub free_bytes : {D : Type 0} {g : Ghosts D} → ByteDestinationOver D g → List ℕ
free_bytes {g} dest = drop dest.pos (g.bytes dest.slice)

-- the destination that a handle keeps, as a reference
abbrev pub one_destination : {D : Type 0} {g : Ghosts D} → ByteOneOver D g → MutBor
    (ByteDestinationOver D g)
one_destination handle = handle.dest

abbrev pub two_destination : {D : Type 0} {g : Ghosts D} → ByteTwoOver D g → MutBor
    (ByteDestinationOver D g)
two_destination handle = handle.dest

abbrev pub three_destination : {D : Type 0} {g : Ghosts D} → ByteThreeOver D g → MutBor
    (ByteDestinationOver D g)
three_destination handle = handle.dest

abbrev pub four_destination : {D : Type 0} {g : Ghosts D} → ByteFourOver D g → MutBor
    (ByteDestinationOver D g)
four_destination handle = handle.dest
