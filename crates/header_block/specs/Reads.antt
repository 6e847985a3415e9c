-- What reads of a stream's text do, one after the other or none.
use Rattle.std.specs.Prelude.{◌≡◌, ℕ, ◌+◌, ◌≤◌, true, List, [], ◌++◌, length, IsNone}
use Rattle.std.specs.Io.KnownBytes.{Consumes, IsAtEnd}
use Rattle.enc_drivers.specs.Units.{AreBytes}
use Rattle.enc_io.specs.Reader.{ReaderStanding, still, number, has_seen_end}

-- where the reader has seen the end, its source has nothing left
abbrev pub IsDrained : ReaderStanding → Type 0
IsDrained at = has_seen_end at ≡ true → IsAtEnd at.left

-- some bytes were taken from the source, and some text was read. Whatever bytes follow those taken,
-- what was still to read is what was read and what is still to read now
pub record Reads (before after : ReaderStanding) (text : List ℕ) : Type 0 where
  pub moved : List ℕ
  pub bytes : AreBytes moved
  pub consumed : Consumes before.left after.left moved
  pub taken : after.taken ≡ before.taken + length moved
  pub equation : (rest : List ℕ) → AreBytes rest → (has_seen_end after ≡ true → rest ≡ [])
      → still before (moved ++ rest) ≡ text ++ still after rest
  pub falls : number after + length text ≤ number before
  pub behind_end : has_seen_end before ≡ true → (moved ≡ []) × (has_seen_end after ≡ true)
      × (after.calls ≡ before.calls)
  pub drained : IsDrained before → IsDrained after
  pub silent : IsNone before.left → IsNone after.left
  pub same_options : after.options ≡ before.options
  pub same_indexes : after.indexes ≡ before.indexes
  pub same_buffer : after.buffer ≡ before.buffer

-- a text that a reader may still give: where some bytes come and then the end
pub record MayCome (at : ReaderStanding) (text : List ℕ) : Type 0 where
  pub rest : List ℕ
  pub bytes : AreBytes rest
  pub end : has_seen_end at ≡ true → rest ≡ []
  pub is : text ≡ still at rest
