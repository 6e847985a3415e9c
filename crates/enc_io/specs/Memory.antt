-- What a source in memory is.
use Rattle.std.specs.Prelude.{ℕ, List}

-- the bytes left, the most bytes of one read, the numbers of the reads that fail, how many reads
-- there were, and how many of them failed
pub record Memory : Type 0 where
  pub left : List ℕ
  pub step : ℕ
  pub failing : List ℕ
  pub calls : ℕ
  pub faults : ℕ
