-- Octets within a line of an input, as an encoder writes many of them at once (RFC 2045 section
-- 6.7, rules 1 and 2).
use Rattle.std.specs.Prelude.{ℕ, ◌+◌, Bool, true, ◌==◌, ◌&&◌, not, if◌then◌else◌, List, []}
use Rattle.std.specs.Prelude.{◌∷◌, ◌++◌, zero, suc, map, take, drop}
use Rattle.std.specs.Simd.Lanes.{mask_l}
use Rattle.qp.specs.Items.{Item, plain, escaped, item_text, is_blank, may_stand_within, ends_line}

-- an octet that may not stand for itself
abbrev pub needs_escape : ℕ → Bool
needs_escape b = not (may_stand_within b)

-- the item of an octet behind which no line ends
abbrev pub within_item : ℕ → Item
within_item b = if may_stand_within b then plain b else escaped b

-- what is written for such octets, without line breaks
unfoldable pub spread : List ℕ → List ℕ
spread [] = []
spread (b ∷ rest) = item_text (within_item b) ++ spread rest

-- which of the first sixteen octets need an escape, a bit for each
abbrev pub escapes_of : List ℕ → ℕ
escapes_of text = mask_l (map needs_escape (take 16 text))

-- none of the first octets of a text is CR, or a tab or a space at the end of a line
unfoldable pub goes_within : ℕ → List ℕ → Bool
goes_within zero text = true
goes_within (suc n) [] = true
goes_within (suc n) (b ∷ rest) =
    not (b == 13) && (not (is_blank b && ends_line rest) && goes_within n rest)

-- four octets of each of three lists, and `=` four times
abbrev pub group_of : ℕ → List ℕ → List ℕ → List ℕ → List ℕ
group_of at octets high low =
    take 4 (drop at octets) ++ take 4 (drop at high) ++ take 4 (drop at low)
    ++ 61 ∷ 61 ∷ 61 ∷ 61 ∷ []
