-- The field that has begun, and the line that has begun behind it.
use Rattle.std.specs.Prelude.{ℕ, Bool, true, List, [], ◌∷◌, ◌++◌}
use Rattle.header_block.specs.Fields.{begins_wsp}

-- a field as a line with its end, where one has begun
abbrev pub as_line : List ℕ → List ℕ
as_line [] = []
as_line (b ∷ bytes) = (b ∷ bytes) ++ 13 ∷ 10 ∷ []

-- a line goes on with a field, if both have begun
abbrev pub goes_with : List ℕ → List ℕ → Bool
goes_with [] line = true
goes_with (b ∷ field) [] = true
goes_with (b ∷ field) (c ∷ line) = begins_wsp (c ∷ line)

-- a field and those behind it; no field where nothing has begun
abbrev pub field_then : List ℕ → List (List ℕ) → List (List ℕ)
field_then [] later = []
field_then (b ∷ field) later = (b ∷ field) ∷ later
