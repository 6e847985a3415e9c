-- What a destination is: the text written so far, and the room that is left.
use Rattle.std.specs.Prelude.{ℕ, ◌-◌, List, ◌++◌, length}
use Rattle.std.specs.Borrow.{GName}

-- the elements written, how many more fit, and the name of the buffer that they lie in
pub record Writing : Type 0 where
  pub text : List ℕ
  pub free : ℕ
  pub buffer : GName

-- after more elements were written
abbrev pub after_writing : Writing → List ℕ → Writing
after_writing writing units =
    record writing { text = writing.text ++ units; free = writing.free - length units }
