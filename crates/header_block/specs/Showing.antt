-- What a header block keeps, and how the next field is shown.
use Rattle.std.specs.Prelude.{◌≡◌, ◌<◌, ℕ, true, false, List, [], length, Option, Some, None, Result}
use Rattle.std.specs.Prelude.{Ok, Err, IsSomeAnd, string_bytes}
use Rattle.enc_front.specs.Indexes.{Indexes}
use Rattle.enc_io.specs.Faults.{count_after}
use Rattle.words.specs.declared.decoder.Error.{Error}
use Rattle.words.specs.declared.decoder.Error.TheVariants as words
use Rattle.words.specs.declared.strategy.RecoverStrategy.{RecoverStrategy}
use Rattle.words.specs.Fault.{fault_of}
use Rattle.words.specs.Header.{header}
use Rattle.header_block.specs.declared.block.BlockError.{BlockError}
use Rattle.header_block.specs.declared.block.BlockError.TheVariants as answer
use Rattle.header_block.specs.declared.block.Field.{Field}
use Rattle.header_block.specs.declared.block.FieldFault.{FieldFault}
use Rattle.header_block.specs.declared.block.FieldFault.TheVariants as fault
use Rattle.header_block.specs.declared.block.Stop.{Stop}
use Rattle.header_block.specs.declared.block.Stop.TheVariants as stop
use Rattle.header_block.specs.declared.field_reader.FieldError.{FieldError}
use Rattle.header_block.specs.declared.field_reader.FieldError.TheVariants as error
use Rattle.header_block.specs.Block.{BlockStanding}
use Rattle.header_block.specs.Gathering.{Gathered, held_of}
use Rattle.header_block.specs.Parts.{is_good, name_of, value_of}

-- what its reader of fields keeps; how many fields have been passed; why it stands still; and how
-- values are decoded
pub record BlockState : Type 0 where
  pub at : Gathered
  pub passed : ℕ
  pub stopped : Option Stop
  pub strategy : RecoverStrategy
  pub indexes : Indexes

abbrev pub standing_by : BlockState → BlockStanding
standing_by s = record {
  held = held_of s.at;
  passed = s.passed;
  stopped = s.stopped;
  strategy = s.strategy;
  indexes = s.indexes;
}

-- an error of `words` as a fault of a field
abbrev pub fault_from : Error → FieldFault
fault_from (words.Lexer e) = fault.Header (words.Lexer e)
fault_from (words.Parser e) = fault.Header (words.Parser e)
fault_from (words.Evaluator e) = fault.Header (words.Evaluator e)
fault_from words.Memory = fault.Memory

-- a field's text as it is shown, or why it isn't
abbrev pub ShowsText : RecoverStrategy → Indexes → List ℕ → Result Field FieldFault → Type 0
ShowsText strategy indexes text (Ok field) = (is_good text ≡ true)
    × (field.name.items ≡ name_of text)
    × (header strategy indexes (value_of text) ≡ Ok (string_bytes field.text))
ShowsText strategy indexes text (Err fault.Memory) = Unit {0}
ShowsText strategy indexes text (Err fault.NotAField) = is_good text ≡ false
ShowsText strategy indexes text (Err (fault.Header error)) = (is_good text ≡ true)
    × IsSomeAnd (fault_of error) (λ f. header strategy indexes (value_of text) ≡ Err f)

-- the field that was found is passed
abbrev pub passed_by : BlockState → BlockState
passed_by s = record s { at = record s.at { field = [] }; passed = count_after s.passed }

-- what showing the field that was found does
abbrev pub ShowsNext : BlockState → BlockState → Result (Option Field) BlockError → Type 0
ShowsNext before after (Ok (Some field)) = (after ≡ passed_by before)
    × ShowsText before.strategy before.indexes before.at.field (Ok field)
ShowsNext before after (Ok None) = (after ≡ record before { stopped = Some stop.AtEnd })
    × (before.at.field ≡ [])
ShowsNext before after (Err answer.Memory) = (after ≡ before) × (0 < length before.at.field)
ShowsNext before after (Err answer.ReadFault) = ⊥
ShowsNext before after (Err answer.TooMuch) = ⊥
ShowsNext before after (Err (answer.TooLong n)) = ⊥
ShowsNext before after (Err (answer.NotAField n)) =
    (after ≡ record before { stopped = Some stop.NotAField })
    × (0 < length before.at.field) × (is_good before.at.field ≡ false) × (n ≡ before.passed)
ShowsNext before after (Err (answer.Header n error)) = (after ≡ passed_by before)
    × (n ≡ before.passed)
    × (is_good before.at.field ≡ true)
    × IsSomeAnd (fault_of error)
    (λ f. header before.strategy before.indexes (value_of before.at.field) ≡ Err f)

-- the answer to an error of the reader of fields, where so many fields have been passed
abbrev pub error_answer : FieldError → ℕ → BlockError
error_answer error.Memory n = answer.Memory
error_answer error.ReadFault n = answer.ReadFault
error_answer error.TooMuch n = answer.TooMuch
error_answer error.TooLong n = answer.TooLong n

-- why the block stands still behind it
abbrev pub stopped_by : FieldError → Option Stop → Option Stop
stopped_by error.Memory stopped = stopped
stopped_by error.ReadFault stopped = stopped
stopped_by error.TooMuch stopped = Some stop.TooMuch
stopped_by error.TooLong stopped = Some stop.TooLong
