-- What a header block stands for between two calls.
use Rattle.std.specs.Prelude.{ℕ, ◌++◌, List, [], None, Some}
use Rattle.std.specs.declared.option.Option.{Option}
use Rattle.enc_front.specs.Indexes.{Indexes}
use Rattle.enc_io.specs.Reader.{ReaderStanding, still}
use Rattle.enc_io.specs.Reader as reader
use Rattle.words.specs.declared.strategy.RecoverStrategy.{RecoverStrategy}
use Rattle.header_block.specs.declared.block.Stop.{Stop}
use Rattle.header_block.specs.declared.block.Stop.TheVariants.{AtEnd, TooMuch, TooLong, NotAField}
use Rattle.header_block.specs.Fields.{fields}

-- its reader, the text that was read and that no answer has passed, and a number that no call
-- raises
pub record Held : Type 0 where
  pub reader : ReaderStanding
  pub kept : List ℕ
  pub number : ℕ

-- what it holds; how many fields have been passed; why it stands still, if it does; and how values
-- are decoded
pub record BlockStanding : Type 0 where
  pub held : Held
  pub passed : ℕ
  pub stopped : Option Stop
  pub strategy : RecoverStrategy
  pub indexes : Indexes

-- a block over a reader, of which nothing was read
abbrev pub fresh : ReaderStanding → RecoverStrategy → Indexes → BlockStanding
fresh at strategy indexes = record {
  held = record { reader = at; kept = []; number = reader.number at };
  passed = 0;
  stopped = None;
  strategy = strategy;
  indexes = indexes;
}

-- the fields still to come, by why the block stands still
abbrev pub fields_unless : Option Stop → List ℕ → List (List ℕ)
fields_unless None text = fields text
fields_unless (Some AtEnd) text = []
fields_unless (Some TooMuch) text = fields text
fields_unless (Some TooLong) text = fields text
fields_unless (Some NotAField) text = fields text

-- the fields still to come where the source gives these bytes and then ends; none once the block
-- has ended
abbrev pub block_still : BlockStanding → List ℕ → List (List ℕ)
block_still at rest = fields_unless at.stopped (at.held.kept ++ still at.held.reader rest)
