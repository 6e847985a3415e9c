-- What the devices in memory are.
use Rattle.std.specs.Prelude.{ℕ, Bool, ◌&&◌, ◌==◌, nat_lt, List, length}

-- the bytes taken, how many more have room, the most bytes of one write, the numbers of the writes
-- that fail, how many writes there were, and how many of them failed
pub record SinkInMemory : Type 0 where
  pub taken : List ℕ
  pub room : ℕ
  pub step : ℕ
  pub failing : List ℕ
  pub calls : ℕ
  pub faults : ℕ

-- the files by their names, the numbers of the calls that fail, how many calls there were, and how
-- many of them failed
pub record ShelfInMemory : Type 0 where
  pub files : List (List ℕ × List ℕ)
  pub failing : List ℕ
  pub calls : ℕ
  pub faults : ℕ

-- a nonempty piece, and no room is left
abbrev pub is_full : ℕ → List ℕ → Bool
is_full room piece = room == 0 && nat_lt 0 (length piece)

-- how many calls failed, and how many there were
pub record Counters : Type 0 where
  pub faults : ℕ
  pub calls : ℕ
