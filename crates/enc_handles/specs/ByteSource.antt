-- What a source of bytes and its handles show.
use Rattle.std.specs.Borrow.{MutBor}
use Rattle.enc_handles.specs.Reading.{Reading}
use Rattle.enc_handles.specs.declared.byte_slice.ByteSlice.{Ghosts}
use Rattle.enc_handles.specs.declared.byte_source.ByteSourceOver.{ByteSourceOver}
use Rattle.enc_handles.specs.declared.byte_source.ByteReadOver.{ByteReadOver}

-- the bytes of a source and its place
abbrev pub reading : {B : Type 0} {g : Ghosts B} → ByteSourceOver B g → Reading
reading {g} source = record { items = g.bytes source.slice; place = source.pos }

-- the source that a handle keeps, as a reference
abbrev pub read_source : {B : Type 0} {g : Ghosts B} → ByteReadOver B g → MutBor
    (ByteSourceOver B g)
read_source handle = handle.source
