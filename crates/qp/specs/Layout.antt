-- Encoded text laid out in lines (RFC 2045 section 6.7, rules 4 and 5).
use Rattle.std.specs.Prelude.{ℕ, ◌+◌, Bool, true, false, ◌==◌, ◌||◌, ◌&&◌, not, nat_lt}
use Rattle.std.specs.Prelude.{if◌then◌else◌, List, [], ◌∷◌, ◌++◌, length}
use Rattle.std.specs.List.{onto_first}
use Rattle.qp.specs.Items.{Item, hard_break, plain, escaped, item_text}

abbrev pub is_hard_break : Item → Bool
is_hard_break hard_break = true
is_hard_break (plain b) = false
is_hard_break (escaped b) = false

-- a further item stands on the line, before the next hard break or the end
abbrev pub goes_on : List Item → Bool
goes_on [] = false
goes_on (item ∷ rest) = not (is_hard_break item)

-- how many bytes an item takes of its line
abbrev pub width : Item → ℕ
width item = length (item_text item)

-- a soft break stands before an item of `wide` bytes on a line that has `used`: the line would pass
-- the limit, or would reach it with a further item to come, which leaves no room for the `=` of a
-- soft break
abbrev pub breaks_before : ℕ → ℕ → ℕ → Bool → Bool
breaks_before limit used wide more = nat_lt limit (used + wide) || ((used + wide == limit) && more)

-- `=` and CR LF: the line goes on in the next one (RFC 2045 6.7, rule 5)
abbrev pub soft_break : List ℕ
soft_break = 61 ∷ 13 ∷ 10 ∷ []

-- items after `used` bytes of a line
unfoldable pub laid_out_from : ℕ → ℕ → List Item → List ℕ
laid_out_from limit used [] = []
laid_out_from limit used (item ∷ rest) =
    if is_hard_break item then item_text item ++ laid_out_from limit 0 rest
    else if breaks_before limit used (width item) (goes_on rest)
    then soft_break ++ item_text item ++ laid_out_from limit (width item) rest
    else item_text item ++ laid_out_from limit (used + width item) rest

-- items in lines of at most `limit` bytes
unfoldable pub laid_out : ℕ → List Item → List ℕ
laid_out limit list = laid_out_from limit 0 list

-- a text cut at each CR LF
unfoldable pub broken_lines : List ℕ → List (List ℕ)
broken_lines [] = [] ∷ []
broken_lines (b ∷ []) = (b ∷ []) ∷ []
broken_lines (b ∷ c ∷ rest) =
    if (b == 13) && (c == 10) then [] ∷ broken_lines rest
    else onto_first b (broken_lines (c ∷ rest))
