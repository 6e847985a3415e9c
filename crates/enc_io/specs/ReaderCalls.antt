-- What the calls of a reader of a stream's text do.
use Rattle.std.specs.Prelude.{◌≡◌, ℕ, ◌+◌, ◌-◌, ◌*◌, ◌<◌, ◌≤◌, true, false, if◌then◌else◌, List, []}
use Rattle.std.specs.Prelude.{◌++◌, length, take, IsNone, Result, Ok, Err, None}
use Rattle.std.specs.Option.{ForSome}
use Rattle.std.specs.Io.KnownBytes.{Consumes}
use Rattle.enc_drivers.specs.Units.{AreBytes}
use Rattle.enc_front.specs.DecoderCalls.{DecoderMayHold}
use Rattle.enc_io.specs.declared.reader.ReadError.{ReadError}
use Rattle.enc_io.specs.declared.reader.ReadError.TheVariants.{ReadFault, TooMuch}
use Rattle.enc_io.specs.Faults.{Rose}
use Rattle.enc_io.specs.Reader.{ReaderStanding, still, number, has_seen_end, HasTooMuch}
use Rattle.enc_io.specs.Text.{chosen}

-- some bytes were taken from the source, and some were given. Whatever bytes follow those taken,
-- what was still to give is what was given and what is still to give now; the number fell by the
-- bytes given; behind its end the source is left alone
pub record Moves (before after : ReaderStanding) (given : List ℕ) : Type 0 where
  pub moved : List ℕ
  pub bytes : AreBytes moved
  pub consumed : Consumes before.left after.left moved
  pub taken : after.taken ≡ before.taken + length moved
  pub equation : (rest : List ℕ) → AreBytes rest → (has_seen_end after ≡ true → rest ≡ [])
      → still before (moved ++ rest) ≡ given ++ still after rest
  pub gathered : after.peeker.gathered ≡ take 3 (before.peeker.gathered ++ moved)
  pub falls : number after + length given ≤ number before
  pub behind_end : has_seen_end before ≡ true → (moved ≡ []) × (has_seen_end after ≡ true)
      × (after.calls ≡ before.calls)
  pub silent : IsNone before.left → IsNone after.left
  pub same_options : after.options ≡ before.options
  pub same_indexes : after.indexes ≡ before.indexes
  pub same_buffer : after.buffer ≡ before.buffer

-- without a fault of the source, which gave no more than the limit; it was called once more than it
-- gave bytes at most, and that only at its end
pub record GoesOn (before after : ReaderStanding) (given : List ℕ) : Type 0 where
  pub moves : Moves before after given
  pub same_faults : after.faults ≡ before.faults
  pub calls : after.calls + before.taken ≤ before.calls + after.taken + 1
  pub calls_on : has_seen_end after ≡ false
      → after.calls + before.taken ≤ before.calls + after.taken
  pub within : after.taken ≤ after.options.limit

-- what a reader keeps where its source is called: no text, and nothing to decode but bytes whose
-- text depends on what follows
pub record KeepsUndecided (at : ReaderStanding) : Type 0 where
  pub tiny : at.tiny ≡ []
  pub buffered : at.buffered ≡ []
  pub held : ForSome at.decoder
      (λ decoder. (decoder.owes ≡ false) × DecoderMayHold false decoder.place)

-- what it keeps at a fault: of fewer than three bytes taken, all, for the mark; else besides
-- nothing, and where no encoding is chosen no decoder
pub record KeepsLittle (at : ReaderStanding) : Type 0 where
  pub undecided : KeepsUndecided at
  pub gathering : at.detected ≡ false → (at.taken < 3) × (at.taken ≡ length at.peeker.gathered)
  pub waiting : at.detected ≡ true → at.peeker.waiting ≡ []
  pub passes : at.detected ≡ true → chosen at.options at.peeker.gathered ≡ None → at.decoder ≡ None

-- with a fault of the source: nothing was given, its count rose, and little is kept
pub record Faults (before after : ReaderStanding) : Type 0 where
  pub moves : Moves before after []
  pub rose : Rose before.faults after.faults
  pub calls : after.calls + before.taken ≤ before.calls + after.taken + 1
  pub within : after.taken ≤ after.options.limit
  pub going : has_seen_end after ≡ false
  pub keeps : KeepsLittle after

-- the source gave more than the limit; what was given is lost
pub record Passes (before after : ReaderStanding) : Type 0 where
  pub lost : List ℕ
  pub moves : Moves before after lost
  pub same_faults : after.faults ≡ before.faults
  pub calls : after.calls + before.taken ≤ before.calls + after.taken + 1
  pub passed : HasTooMuch after
  pub at_most : after.taken ≤ after.options.limit + 1

-- what a call does by its answer, where it has given these bytes
abbrev pub Does : {A : Type 0} → ReaderStanding → ReaderStanding → List ℕ → Result A ReadError
    → Type 0
Does before after given (Ok a) = GoesOn before after given
Does before after given (Err ReadFault) = Faults before after
Does before after given (Err TooMuch) = Passes before after

-- the source has ended, and nothing is still to give
pub record HasGivenText (at : ReaderStanding) : Type 0 where
  pub ended : has_seen_end at ≡ true
  pub nothing : still at [] ≡ []

-- how many turns of reading and decoding are left at most
abbrev pub turns : ReaderStanding → ℕ
turns at =
    2 * ((at.options.limit + 1 - at.taken) + length at.peeker.waiting) + length at.buffered
    + (if has_seen_end at then 0 else 1)
