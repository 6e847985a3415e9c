-- What a reader of fields keeps, and what its calls do.
use Rattle.std.specs.Prelude.{◌≡◌, ℕ, ◌+◌, ◌<◌, ◌≤◌, Bool, true, false, List, [], ◌++◌}
use Rattle.std.specs.Prelude.{length, Result, Ok, Err}
use Rattle.enc_io.specs.Faults.{Rose}
use Rattle.enc_io.specs.Reader.{ReaderStanding, HasTooMuch}
use Rattle.enc_io.specs.Reader as reader
use Rattle.header_block.specs.declared.field_reader.FieldError.{FieldError}
use Rattle.header_block.specs.declared.field_reader.FieldError.TheVariants.{Memory, ReadFault}
use Rattle.header_block.specs.declared.field_reader.FieldError.TheVariants.{TooMuch, TooLong}
use Rattle.header_block.specs.declared.field_reader.TheConstants.{LONGEST}
use Rattle.header_block.specs.Block.{Held}
use Rattle.header_block.specs.Fields.{fields, BeginsTooLong}
use Rattle.header_block.specs.Kept.{as_line, field_then}
use Rattle.header_block.specs.Reads.{Reads, MayCome}

-- its reader; of the field that has begun the whole lines, unfolded, and the bytes of the line that
-- has begun; and the text that was read behind them
pub record Gathered : Type 0 where
  pub reader : ReaderStanding
  pub field : List ℕ
  pub line : List ℕ
  pub waiting : List ℕ

-- the text that is kept: the unfolded field stands for its lines
abbrev pub kept_text : Gathered → List ℕ
kept_text at = as_line at.field ++ (at.line ++ at.waiting)

abbrev pub held_of : Gathered → Held
held_of at = record {
  reader = at.reader;
  kept = kept_text at;
  number = reader.number at.reader + (length at.field + (length at.line + length at.waiting));
}

-- some text was read, and nothing is lost, whatever text follows
pub record Gathers (before after : Gathered) : Type 0 where
  pub text : List ℕ
  pub reads : Reads before.reader after.reader text
  pub same : (more : List ℕ) → fields (kept_text before ++ (text ++ more)) ≡ fields (kept_text after ++ more)
  pub falls : (held_of after).number ≤ (held_of before).number
  pub same_faults : after.reader.faults ≡ before.reader.faults

-- the next field is whole, or there is none
pub record Finds (before after : Gathered) : Type 0 where
  pub text : List ℕ
  pub reads : Reads before.reader after.reader text
  pub found : (more : List ℕ) → MayCome after.reader more → fields (kept_text before ++ (text ++ more))
      ≡ field_then after.field (fields (after.waiting ++ more))
  pub same : (more : List ℕ) → MayCome after.reader more → 0 < length after.field
      → field_then after.field (fields (after.waiting ++ more)) ≡ fields (kept_text after ++ more)
  pub line : after.line ≡ []
  pub within : length after.field ≤ LONGEST
  pub falls : (held_of after).number ≤ (held_of before).number
  pub same_faults : after.reader.faults ≡ before.reader.faults

-- some text was read, and a read of the source failed
pub record Fails (before after : Gathered) : Type 0 where
  pub text : List ℕ
  pub reads : Reads before.reader after.reader text
  pub same : (more : List ℕ) → fields (kept_text before ++ (text ++ more)) ≡ fields (kept_text after ++ more)
  pub falls : (held_of after).number ≤ (held_of before).number
  pub rose : Rose before.reader.faults after.reader.faults
  pub fits : BeginsTooLong (fields (kept_text after)) → ⊥

-- the source gave too much
pub record PassesLimit (before after : Gathered) : Type 0 where
  pub text : List ℕ
  pub reads : Reads before.reader after.reader text
  pub falls : (held_of after).number ≤ (held_of before).number
  pub same_faults : after.reader.faults ≡ before.reader.faults
  pub passed : HasTooMuch after.reader

-- the next field is too long, whatever text follows
pub record FindsTooLong (before after : Gathered) : Type 0 where
  pub text : List ℕ
  pub reads : Reads before.reader after.reader text
  pub long : (more : List ℕ) → BeginsTooLong (fields (kept_text before ++ (text ++ more)))
  pub falls : (held_of after).number ≤ (held_of before).number
  pub same_faults : after.reader.faults ≡ before.reader.faults

-- what an error tells
abbrev pub Stops : Gathered → Gathered → FieldError → Type 0
Stops before after Memory = Gathers before after
Stops before after ReadFault = Fails before after
Stops before after TooMuch = PassesLimit before after
Stops before after TooLong = FindsTooLong before after

-- a number that falls with each step
abbrev pub turns : Gathered → ℕ
turns at = (reader.number at.reader + reader.number at.reader) + length at.waiting

-- what a step does by its answer: whether the next field is whole, or there is none
abbrev pub Steps : Gathered → Gathered → Result Bool FieldError → Type 0
Steps before after (Ok true) = Finds before after
Steps before after (Ok false) = Gathers before after × (turns after < turns before)
Steps before after (Err error) = Stops before after error

-- what steps do until there is an answer
abbrev pub Answers : Gathered → Gathered → Result (Unit {0}) FieldError → Type 0
Answers before after (Ok done) = Finds before after
Answers before after (Err error) = Stops before after error
