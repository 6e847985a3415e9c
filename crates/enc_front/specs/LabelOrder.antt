-- The order of the table of labels.
use Rattle.std.specs.Prelude.{Bool, true, not, ◌&&◌, ℕ, List, [], ◌∷◌}
use Rattle.std.specs.declared.cmp.Ordering.{Ordering}
use Rattle.std.specs.Ordering.{is_lt, nat_cmp}
use Rattle.std.specs.Cmp.Lexicographic.{slice_cmp}
use Rattle.std.specs.Str.{str_to_ascii_lowercase}
use Rattle.enc_front.specs.Encoding.{Labels}

-- how two labels compare, both in lower case
abbrev pub label_order : List ℕ → List ℕ → Ordering
label_order a b = slice_cmp nat_cmp (str_to_ascii_lowercase a) (str_to_ascii_lowercase b)

-- no label comes before that of the row in front of it
abbrev pub rows_rise : Labels → Bool
rows_rise [] = true
rows_rise (row ∷ []) = true
rows_rise (row ∷ next ∷ rows) = not (is_lt (label_order next.0 row.0)) && rows_rise (next ∷ rows)
