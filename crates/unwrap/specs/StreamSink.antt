-- What a sink over a writer of std is.
use Rattle.std.specs.Prelude.{ℕ}

-- the writer, how many of its writes failed, and how many there were
pub record SinkOver (W : Type 0) : Type 0 where
  pub writer : W
  pub faults : ℕ
  pub calls : ℕ
