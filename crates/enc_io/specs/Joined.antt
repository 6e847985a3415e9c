-- Reads of a reader of a stream's text, one after the other.
use Rattle.std.specs.Prelude.{◌≡◌, ℕ, true, List, [], ◌++◌}
use Rattle.enc_drivers.specs.Units.{AreBytes}
use Rattle.enc_io.specs.Reader.{ReaderStanding, still, has_seen_end}

-- what one read does to what is still to give: some bytes were taken, none behind the end, and some
-- text was given
pub record Gives (before after : ReaderStanding) (moved given : List ℕ) : Type 0 where
  pub bytes : AreBytes moved
  pub equation : (rest : List ℕ) → AreBytes rest → (has_seen_end after ≡ true → rest ≡ [])
      → still before (moved ++ rest) ≡ given ++ still after rest
  pub behind_end : has_seen_end before ≡ true → (moved ≡ []) × (has_seen_end after ≡ true)

-- reads, and what they took and gave in all
pub data Joined : ReaderStanding → ReaderStanding → List ℕ → List ℕ → Type 0 where
  no_read : (at : ReaderStanding) → Joined at at [] []
  reads : (before between after : ReaderStanding) (moved more given text : List ℕ)
      → Gives before between moved given → Joined between after more text
      → Joined before after (moved ++ more) (given ++ text)
