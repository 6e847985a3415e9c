-- The destination that a room keeps, as a reference.
use Rattle.std.specs.Borrow.{MutBor}
use Rattle.enc_handles.specs.declared.room.BmpRoom.{BmpRoom}
use Rattle.enc_handles.specs.declared.room.AstralRoom.{AstralRoom}

abbrev pub bmp_destination : {D : Type 0} → BmpRoom D → MutBor D
bmp_destination room = room.dest

abbrev pub astral_destination : {D : Type 0} → AstralRoom D → MutBor D
astral_destination room = room.dest
