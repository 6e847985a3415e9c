-- What a source of text and its handles show.
use Rattle.std.specs.Prelude.{ℕ}
use Rattle.std.specs.Borrow.{MutBor}
use Rattle.enc_handles.specs.Reading.{Reading}
use Rattle.enc_handles.specs.declared.text_slice.TextSlice.{Ghosts}
use Rattle.enc_handles.specs.declared.char_source.CharSourceOver.{CharSourceOver}
use Rattle.enc_handles.specs.declared.char_source.CharReadOver.{CharReadOver}

-- the elements of a source and its place
abbrev pub reading : {T : Type 0} {g : Ghosts T} → CharSourceOver T g → Reading
reading {g} source = record { items = g.elements source.slice; place = source.pos }

-- the place before the scalar that was read last
abbrev pub unread_place : {T : Type 0} {g : Ghosts T} → CharSourceOver T g → ℕ
unread_place source = source.before

-- the source that a handle keeps, as a reference
abbrev pub read_source : {T : Type 0} {g : Ghosts T} → CharReadOver T g → MutBor
    (CharSourceOver T g)
read_source handle = handle.source
