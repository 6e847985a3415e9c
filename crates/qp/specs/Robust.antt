-- The value of quoted-printable text, read without refusing anything (RFC 2045 section 6.7).
use Rattle.std.specs.Prelude.{ℕ, if◌then◌else◌, List, [], ◌∷◌, ◌++◌}
use Rattle.qp.specs.Text.{kept, lines}
use Rattle.qp.specs.Line.{line_value, is_soft}

-- what stands for the end of a line that an LF ends: CR LF, or nothing after a soft line break (RFC
-- 2045 6.7, rules 4 and 5)
abbrev pub line_end : List ℕ → List ℕ
line_end line = if is_soft line then [] else 13 ∷ 10 ∷ []

-- the values of lines, each but the last with its end
unfoldable pub joined : List (List ℕ) → List ℕ
joined [] = []
joined (line ∷ []) = line_value line
joined (line ∷ next ∷ rest) = (line_value line ++ line_end line) ++ joined (next ∷ rest)

-- the octets that an input stands for: the octets that may stand in it, cut into lines, each line's
-- value, and the line breaks
unfoldable pub robust : List ℕ → List ℕ
robust input = joined (lines (kept input))
