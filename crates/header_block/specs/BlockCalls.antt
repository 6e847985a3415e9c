-- What the calls of a header block do.
use Rattle.std.specs.Prelude.{◌≡◌, ℕ, ◌<◌, ◌≤◌, true, false, List, [], ◌∷◌, ◌++◌}
use Rattle.std.specs.Prelude.{length, Option, Some, None, Result, Ok, Err, IsSomeAnd, string_bytes}
use Rattle.enc_drivers.specs.Units.{AreBytes}
use Rattle.enc_io.specs.Faults.{Rose, count_after}
use Rattle.enc_io.specs.Reader.{has_seen_end, HasTooMuch}
use Rattle.words.specs.declared.decoder.Error.{Error}
use Rattle.words.specs.Fault.{fault_of}
use Rattle.words.specs.Header.{header}
use Rattle.header_block.specs.declared.block.BlockError.{BlockError}
use Rattle.header_block.specs.declared.block.BlockError.TheVariants as answer
use Rattle.header_block.specs.declared.block.Stop.{Stop}
use Rattle.header_block.specs.declared.block.Stop.TheVariants.{AtEnd, TooMuch, TooLong, NotAField}
use Rattle.header_block.specs.declared.block.Field.{Field}
use Rattle.header_block.specs.declared.field_reader.TheConstants.{LONGEST}
use Rattle.header_block.specs.Block.{BlockStanding, block_still}
use Rattle.header_block.specs.Fields.{fields, BeginsTooLong}
use Rattle.header_block.specs.Parts.{is_good, name_of, value_of}
use Rattle.header_block.specs.Reads.{Reads}

-- what a call leaves as it is, whatever it answers
pub record Goes (before after : BlockStanding) : Type 0 where
  pub text : List ℕ
  pub reads : Reads before.held.reader after.held.reader text
  pub falls : after.held.number ≤ before.held.number
  pub same_strategy : after.strategy ≡ before.strategy
  pub same_indexes : after.indexes ≡ before.indexes

-- nothing is lost: whatever bytes follow those taken, the fields still to come are the same, and
-- none was passed
pub record Keeps (before after : BlockStanding) : Type 0 where
  pub goes : Goes before after
  pub equation : (rest : List ℕ) → AreBytes rest → (has_seen_end after.held.reader ≡ true → rest ≡ [])
      → block_still before (goes.reads.moved ++ rest) ≡ block_still after rest
  pub same_passed : after.passed ≡ before.passed
  pub same_stopped : after.stopped ≡ before.stopped

-- a field was passed: whatever bytes follow those taken, the fields still to come were this one and
-- those still to come now. It is good and not too long
pub record Passes (before after : BlockStanding) (field : List ℕ) : Type 0 where
  pub goes : Goes before after
  pub equation : (rest : List ℕ) → AreBytes rest → (has_seen_end after.held.reader ≡ true → rest ≡ [])
      → block_still before (goes.reads.moved ++ rest) ≡ field ∷ block_still after rest
  pub good : is_good field ≡ true
  pub within : length field ≤ LONGEST
  pub counted : after.passed ≡ count_after before.passed
  pub falls : after.held.number < before.held.number
  pub same_stopped : after.stopped ≡ before.stopped

-- a field was passed and is shown: its name, and the text of its value
pub record Shows (before after : BlockStanding) (shown : Field) : Type 0 where
  pub field : List ℕ
  pub passes : Passes before after field
  pub name : shown.name.items ≡ name_of field
  pub text : header before.strategy before.indexes (value_of field) ≡ Ok (string_bytes shown.text)

-- a field was passed whose value has a fault, which the error tells
pub record Refuses (before after : BlockStanding) (number : ℕ) (error : Error) : Type 0 where
  pub field : List ℕ
  pub passes : Passes before after field
  pub fault : IsSomeAnd (fault_of error)
      (λ fault. header before.strategy before.indexes (value_of field) ≡ Err fault)
  pub numbered : number ≡ before.passed

-- no field is left, for good: whatever bytes follow those taken, none is to come
pub record Ends (before after : BlockStanding) : Type 0 where
  pub goes : Goes before after
  pub equation : (rest : List ℕ) → AreBytes rest → (has_seen_end after.held.reader ≡ true → rest ≡ [])
      → block_still before (goes.reads.moved ++ rest) ≡ []
  pub same_passed : after.passed ≡ before.passed
  pub stopped : after.stopped ≡ Some AtEnd

-- the next field is too long, as far as it was read and whatever text follows
pub record IsTooLong (before after : BlockStanding) (number : ℕ) : Type 0 where
  pub goes : Goes before after
  pub long : (more : List ℕ) → BeginsTooLong (fields (before.held.kept ++ (goes.text ++ more)))
  pub equation : (rest : List ℕ) → AreBytes rest → (has_seen_end after.held.reader ≡ true → rest ≡ [])
      → BeginsTooLong (block_still before (goes.reads.moved ++ rest))
  pub numbered : number ≡ before.passed
  pub same_passed : after.passed ≡ before.passed
  pub stopped : after.stopped ≡ Some TooLong

-- the next field is whole and not too long, and it isn't good
pub record IsNotAField (before after : BlockStanding) (number : ℕ) : Type 0 where
  pub goes : Goes before after
  pub field : List ℕ
  pub equation : (rest : List ℕ) → AreBytes rest → (has_seen_end after.held.reader ≡ true → rest ≡ [])
      → (later : List (List ℕ)) × (block_still before (goes.reads.moved ++ rest) ≡ field ∷ later)
  pub not_good : is_good field ≡ false
  pub within : length field ≤ LONGEST
  pub numbered : number ≡ before.passed
  pub same_passed : after.passed ≡ before.passed
  pub stopped : after.stopped ≡ Some NotAField

-- the reader gave its answer that the source gave too much
pub record HasPassedLimit (before after : BlockStanding) : Type 0 where
  pub goes : Goes before after
  pub passed_limit : HasTooMuch after.held.reader
  pub same_passed : after.passed ≡ before.passed
  pub stopped : after.stopped ≡ Some TooMuch

-- of the next field as far as it was read there are no more bytes than a field may have
abbrev pub Fits : BlockStanding → Type 0
Fits at = BeginsTooLong (fields at.held.kept) → ⊥

-- what a call of a block that doesn't stand still does, by its answer
abbrev pub Does : BlockStanding → BlockStanding → Result (Option Field) BlockError → Type 0
Does before after (Ok (Some field)) =
    Shows before after field × (after.held.reader.faults ≡ before.held.reader.faults)
Does before after (Ok None) =
    Ends before after × (after.held.reader.faults ≡ before.held.reader.faults)
Does before after (Err answer.Memory) =
    Keeps before after × (after.held.reader.faults ≡ before.held.reader.faults)
Does before after (Err answer.ReadFault) =
    Keeps before after × Rose before.held.reader.faults after.held.reader.faults × Fits after
Does before after (Err answer.TooMuch) =
    HasPassedLimit before after × (after.held.reader.faults ≡ before.held.reader.faults)
Does before after (Err (answer.TooLong n)) =
    IsTooLong before after n × (after.held.reader.faults ≡ before.held.reader.faults)
Does before after (Err (answer.NotAField n)) =
    IsNotAField before after n × (after.held.reader.faults ≡ before.held.reader.faults)
Does before after (Err (answer.Header n error)) =
    Refuses before after n error × (after.held.reader.faults ≡ before.held.reader.faults)

-- the answer of a block that stands still
abbrev pub stop_answer : Stop → ℕ → Result (Option Field) BlockError
stop_answer AtEnd n = Ok None
stop_answer TooMuch n = Err answer.TooMuch
stop_answer TooLong n = Err (answer.TooLong n)
stop_answer NotAField n = Err (answer.NotAField n)
