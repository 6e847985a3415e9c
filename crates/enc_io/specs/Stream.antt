-- What a source over a reader of std is.
use Rattle.std.specs.Prelude.{ℕ}

-- the reader, and how many of its reads failed and how many there were
pub record Streaming (R : Type 0) : Type 0 where
  pub reader : R
  pub faults : ℕ
  pub calls : ℕ
