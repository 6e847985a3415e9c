-- What a reader of fields shows.
use Rattle.std.specs.Prelude.{take, drop}
use Rattle.enc_io.specs.declared.outside.Source.{Ghosts}
use Rattle.enc_io.specs.declared.reader.DecodeReaderBytes.{DecodeReaderBytes}
use Rattle.enc_io.specs.ReaderView as reader
use Rattle.header_block.specs.declared.field_reader.FieldReader.{FieldReader}
use Rattle.header_block.specs.Gathering.{Gathered}

-- its reader
abbrev pub reader_of : {S : Type 0} {g : Ghosts S} → FieldReader S g → DecodeReaderBytes S g
reader_of fields = fields.reader

-- what it keeps
abbrev pub gathered_of : {S : Type 0} {g : Ghosts S} → FieldReader S g → Gathered
gathered_of fields = record {
  reader = reader.standing_of fields.reader;
  field = take fields.line_start fields.text.items;
  line = drop fields.line_start fields.text.items;
  waiting = drop fields.start (take fields.end fields.piece.items);
}
