-- Calls of a header block, one after the other, to its end.
use Rattle.std.specs.Prelude.{◌≡◌, ℕ, List, [], ◌∷◌, Some, None, Result, Ok, Err, string_bytes}
use Rattle.enc_front.specs.Indexes.{Indexes}
use Rattle.words.specs.declared.decoder.Error.{Error}
use Rattle.words.specs.declared.strategy.RecoverStrategy.{RecoverStrategy}
use Rattle.words.specs.Fault.{HeaderFault, fault_of}
use Rattle.words.specs.Header.{header}
use Rattle.header_block.specs.declared.block.BlockError.TheVariants.{Header, Memory, ReadFault}
use Rattle.header_block.specs.declared.block.Field.{Field}
use Rattle.header_block.specs.Block.{BlockStanding}
use Rattle.header_block.specs.BlockCalls.{Does}
use Rattle.header_block.specs.Parts.{name_of, value_of}

-- a field's name and text, or why its value has none
abbrev pub Shown : Type 0
Shown = Result (List ℕ × List ℕ) HeaderFault

-- with this name
abbrev pub with_name : List ℕ → Result (List ℕ) HeaderFault → Shown
with_name name (Ok text) = Ok (name, text)
with_name name (Err fault) = Err fault

-- what an unfolded field shows
abbrev pub shown_of : RecoverStrategy → Indexes → List ℕ → Shown
shown_of strategy indexes field = with_name (name_of field) (header strategy indexes (value_of field))

-- calls up to an `Ok(None)`, and what those showed that answered a field or its value's fault;
-- between them stand failed reads and want of memory
pub data Calls : BlockStanding → List Shown → Type 0 where
  ends : (before after : BlockStanding) → Does before after (Ok None) → Calls before []
  shows : (before after : BlockStanding) (field : Field) (rest : List Shown)
      → Does before after (Ok (Some field)) → Calls after rest
      → Calls before (Ok (field.name.items, string_bytes field.text) ∷ rest)
  refuses : (before after : BlockStanding) (n : ℕ) (error : Error) (fault : HeaderFault)
      (rest : List Shown) → Does before after (Err (Header n error)) → fault_of error ≡ Some fault
      → Calls after rest → Calls before (Err fault ∷ rest)
  fails : (before after : BlockStanding) (rest : List Shown) → Does before after (Err ReadFault)
      → Calls after rest → Calls before rest
  lacks : (before after : BlockStanding) (rest : List Shown) → Does before after (Err Memory)
      → Calls after rest → Calls before rest
