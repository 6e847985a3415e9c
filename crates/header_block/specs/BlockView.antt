-- What a header block shows.
use Rattle.enc_front.specs.Indexes.{indexes_of}
use Rattle.enc_io.specs.declared.outside.Source.{Ghosts}
use Rattle.enc_io.specs.declared.reader.DecodeReaderBytes.{DecodeReaderBytes}
use Rattle.header_block.specs.declared.block.HeaderBlock.{HeaderBlock}
use Rattle.header_block.specs.Block.{BlockStanding}
use Rattle.header_block.specs.FieldView as fields
use Rattle.header_block.specs.Showing.{BlockState, standing_by}

-- its reader
abbrev pub reader_of : {S : Type 0} {g : Ghosts S} → HeaderBlock S g → DecodeReaderBytes S g
reader_of block = fields.reader_of block.fields

-- what it keeps
abbrev pub state_of : {S : Type 0} {g : Ghosts S} → HeaderBlock S g → BlockState
state_of block = record {
  at = fields.gathered_of block.fields;
  passed = block.passed;
  stopped = block.stopped;
  strategy = block.strategy;
  indexes = indexes_of block.tables.now;
}

-- what it stands for
abbrev pub standing_of : {S : Type 0} {g : Ghosts S} → HeaderBlock S g → BlockStanding
standing_of block = standing_by (state_of block)
