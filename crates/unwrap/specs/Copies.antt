-- How a reader's text is written to a sink.
use Rattle.std.specs.Prelude.{◌≡◌, ℕ, ◌+◌, ◌-◌, ◌*◌, ◌^◌, ◌≤◌, min, List, [], ◌++◌, length, Result}
use Rattle.std.specs.Prelude.{Ok, Err}
use Rattle.std.specs.declared.option.Option.{Option}
use Rattle.std.specs.Prelude.{IfSome}
use Rattle.std.specs.Io.{StartsWith}
use Rattle.std.specs.Io.KnownBytes.{Appends, IsAtEnd}
use Rattle.enc_drivers.specs.Units.{AreBytes}
use Rattle.enc_io.specs.Faults.{Rose}
use Rattle.enc_io.specs.Reader.{ReaderStanding, still, HasTooMuch}
use Rattle.enc_io.specs.ReaderCalls.{GoesOn, HasGivenText, KeepsLittle, Moves}
use Rattle.unwrap.specs.declared.text.CopyFault.{CopyFault}
use Rattle.unwrap.specs.declared.text.CopyFault.TheVariants.{ReadFault, TooMuch, WriteFault}

-- what was handed out is a prefix of what the reader had still to give, where its source tells its
-- bytes (a byte is a number below 256)
abbrev pub HandsOutPrefix : ReaderStanding → List ℕ → Type 0
HandsOutPrefix before text =
    IfSome before.left (λ left. AreBytes left → StartsWith (still before left) text)

-- what waits in a reader, which it gives where nothing more comes, has at most three bytes for each
-- byte of its buffer and for ten more: the input isn't gathered
abbrev pub GathersNothing : ReaderStanding → Type 0
GathersNothing at = length (still at []) ≤ 3 * (at.buffer + 10)

-- all that the reader had still to give was written, and its source was read to its end
pub record CopiesAll (before after : ReaderStanding) (taken taken' : Option (List ℕ))
    (n : ℕ) : Type 0 where
  pub text : List ℕ
  pub goes_on : GoesOn before after text
  pub whole : IfSome before.left (λ left. still before left ≡ text)
  pub written : Appends taken taken' text
  pub count : n ≡ min (length text) (2 ^ 64 - 1)
  pub end : HasGivenText after
  pub drained : IsAtEnd after.left

-- a read of the source failed: all that was handed out was written, and the reader keeps little, of
-- which three bytes at most have a text of three bytes each
pub record StopsAtFault (before after : ReaderStanding)
    (taken taken' : Option (List ℕ)) : Type 0 where
  pub text : List ℕ
  pub moves : Moves before after text
  pub prefix : HandsOutPrefix before text
  pub written : Appends taken taken' text
  pub rose : Rose before.faults after.faults
  pub keeps : KeepsLittle after
  pub small : GathersNothing after
  pub few : length (still after []) ≤ 9
  pub within : after.taken ≤ after.options.limit

-- the source gave more than the limit: what was handed out was written
pub record StopsAtLimit (before after : ReaderStanding)
    (taken taken' : Option (List ℕ)) : Type 0 where
  pub text : List ℕ
  pub lost : List ℕ
  pub moves : Moves before after (text ++ lost)
  pub prefix : HandsOutPrefix before text
  pub written : Appends taken taken' text
  pub same_faults : after.faults ≡ before.faults
  pub passed : HasTooMuch after
  pub at_most : after.taken ≤ after.options.limit + 1

-- the sink failed: of what was handed out at most one piece isn't written
pub record StopsAtSink (before after : ReaderStanding) (taken taken' : Option (List ℕ))
    (piece : ℕ) : Type 0 where
  pub text : List ℕ
  pub goes_on : GoesOn before after text
  pub prefix : HandsOutPrefix before text
  pub front : List ℕ
  pub front_prefix : StartsWith text front
  pub written : Appends taken taken' front
  pub behind : length text ≤ length front + piece
  pub small : GathersNothing after

-- a copy in pieces of at most so many bytes, by its answer
abbrev pub Copies : ReaderStanding → ReaderStanding → Option (List ℕ) → Option (List ℕ) → ℕ
    → Result ℕ CopyFault → Type 0
Copies before after taken taken' piece (Ok n) = CopiesAll before after taken taken' n
Copies before after taken taken' piece (Err ReadFault) = StopsAtFault before after taken taken'
Copies before after taken taken' piece (Err TooMuch) = StopsAtLimit before after taken taken'
Copies before after taken taken' piece (Err WriteFault) =
    StopsAtSink before after taken taken' piece
