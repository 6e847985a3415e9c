-- What one line of quoted-printable text says (RFC 2045 section 6.7).
use Rattle.std.specs.Prelude.{ℕ, ◌+◌, ◌*◌, Bool, true, false, ◌==◌, ◌&&◌, not, if◌then◌else◌, List}
use Rattle.std.specs.Prelude.{[], ◌∷◌}
use Rattle.std.specs.List.{flat_map, list_any}
use Rattle.std.specs.Char.{digit_value, is_digit}
use Rattle.qp.specs.Text.{is_text_octet, trimmed}

-- an octet that may stand in text, and stands for itself there (RFC 2045 6.7, rule 2)
abbrev pub is_literal : ℕ → Bool
is_literal b = is_text_octet b && not (b == 61)

-- what is read at one place of a line: an octet that stands for itself (RFC 2045 6.7, rule 2), `=`
-- and the two octets after it (rule 1), `=` and the one octet that the line still has (the NOTE on
-- illegal substrings, case 3, at the end of each line here), or `=` alone at the line's end (rule
-- 5)
pub data Part : Type 0 where
  literal : ℕ → Part
  escape : ℕ → ℕ → Part
  cut_escape : ℕ → Part
  soft_break : Part

-- a line read from left to right
unfoldable pub parts : List ℕ → List Part
parts [] = []
parts (b ∷ []) = (if b == 61 then soft_break else literal b) ∷ []
parts (b ∷ u ∷ []) = if b == 61 then cut_escape u ∷ [] else literal b ∷ parts (u ∷ [])
parts (b ∷ u ∷ v ∷ rest) =
    if b == 61 then escape u v ∷ parts rest else literal b ∷ parts (u ∷ v ∷ rest)

-- the octet that two hexadecimal digits say, high digit first (RFC 2045 6.7, rule 1), in lower case
-- too (the NOTE on illegal substrings, case 1)
abbrev pub hex_octet : ℕ → ℕ → ℕ
hex_octet u v = digit_value u * 16 + digit_value v

-- `=` and two octets: the octet that they say, or where one is no hexadecimal digit all three as
-- they stand (RFC 2045 6.7; the NOTE on illegal substrings, case 2, keeps `=` and the octet behind
-- it and reads on there)
abbrev pub escape_value : ℕ → ℕ → List ℕ
escape_value u v = if is_digit u 16 && is_digit v 16 then hex_octet u v ∷ [] else 61 ∷ u ∷ v ∷ []

-- the octets that a part stands for; a soft line break stands for none
abbrev pub part_value : Part → List ℕ
part_value (literal b) = b ∷ []
part_value (escape u v) = escape_value u v
part_value (cut_escape u) = 61 ∷ u ∷ []
part_value soft_break = []

abbrev pub is_soft_break : Part → Bool
is_soft_break (literal b) = false
is_soft_break (escape u v) = false
is_soft_break (cut_escape u) = false
is_soft_break soft_break = true

-- the octets that the parts of a line stand for
unfoldable pub values : List Part → List ℕ
values ps = flat_map part_value ps

-- the parts of a line end in a soft line break
unfoldable pub ends_soft : List Part → Bool
ends_soft ps = list_any is_soft_break ps

-- the octets that a line stands for, without its line break
unfoldable pub line_value : List ℕ → List ℕ
line_value line = values (parts (trimmed line))

-- the line ends in a soft line break, so the next line goes on with it (RFC 2045 6.7, rule 5)
unfoldable pub is_soft : List ℕ → Bool
is_soft line = ends_soft (parts (trimmed line))
