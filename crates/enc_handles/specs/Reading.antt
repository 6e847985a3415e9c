-- What a source is: a list of elements, and the place of the next one.
use Rattle.std.specs.Prelude.{ℕ, ◌+◌, ◌-◌, List, drop}

-- the elements, and how many of them were read
pub record Reading : Type 0 where
  pub items : List ℕ
  pub place : ℕ

-- the elements that are left
abbrev pub left : Reading → List ℕ
left reading = drop reading.place reading.items

-- after n more elements were read
abbrev pub after_reading : Reading → ℕ → Reading
after_reading reading n = record reading { place = reading.place + n }

-- how many elements were read between two states
abbrev pub read_len : Reading → Reading → ℕ
read_len old new = new.place - old.place
