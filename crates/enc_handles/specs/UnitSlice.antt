-- What a write into a list of code units leaves.
use Rattle.std.specs.Prelude.{◌≡◌, ℕ, ◌+◌, List, ◌++◌, length, take}

-- the units stand at place at, after those that stood before it; what stands behind them is left
-- open
pub record Puts (old new : List ℕ) (at : ℕ) (units : List ℕ) : Type 0 where
  pub front : take (at + length units) new ≡ take at old ++ units
  pub same_length : length new ≡ length old
