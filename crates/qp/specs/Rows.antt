-- The lines of encoded text as rows of whole items (RFC 2045 section 6.7, rule 5).
use Rattle.std.specs.Prelude.{◌≡◌, ℕ, Bool, if◌then◌else◌, List, [], ◌∷◌, ◌++◌, map}
use Rattle.qp.specs.Items.{Item, hard_break, items_text}
use Rattle.qp.specs.Layout.{broken_lines}

-- the items that stand on one line, and whether a soft line break ends it
pub record Row : Type 0 where
  pub here : List Item
  pub soft : Bool

-- the line that a row makes: what is written for its items, and `=` where a soft line break ends it
abbrev pub row_text : Row → List ℕ
row_text row = items_text row.here ++ (if row.soft then 61 ∷ [] else [])

-- the items of rows, with a hard break behind each but the last that no soft line break ends
unfoldable pub rows_items : List Row → List Item
rows_items [] = []
rows_items (row ∷ []) = row.here
rows_items (row ∷ next ∷ rest) =
    row.here ++ (if row.soft then [] else hard_break ∷ []) ++ rows_items (next ∷ rest)

-- the lines of a text are rows of these items, so that none of them is cut
abbrev pub StandsInRows : List Item → List ℕ → Type 0
StandsInRows list text =
    (rows : List Row) × (broken_lines text ≡ map row_text rows) × (rows_items rows ≡ list)
