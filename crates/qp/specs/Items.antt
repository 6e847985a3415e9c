-- The items of encoded text: what is never cut by a line break (RFC 2045 section 6.7).
use Rattle.std.specs.Prelude.{ℕ, ◌+◌, ◌/◌, ◌%◌, Bool, true, false, ◌==◌, ◌||◌, ◌&&◌, not, nat_le}
use Rattle.std.specs.Prelude.{nat_lt, if◌then◌else◌, List, [], ◌∷◌, ◌++◌, get_or, take}
use Rattle.std.specs.List.{flat_map}
use Rattle.qp.specs.declared.InputMode.{InputMode}
use Rattle.qp.specs.declared.InputMode.TheVariants.{Text, Binary}

-- a line break of the text (RFC 2045 6.7, rule 4), an octet that stands for itself (rule 2), or an
-- octet written as `=` and two digits (rule 1)
pub data Item : Type 0 where
  hard_break : Item
  plain : ℕ → Item
  escaped : ℕ → Item

-- an upper-case hexadecimal digit (RFC 2045 6.7, rule 1)
abbrev pub hex_digit : ℕ → ℕ
hex_digit value = if nat_lt value 10 then 48 + value else 55 + value

-- the octets that are written for an item
abbrev pub item_text : Item → List ℕ
item_text hard_break = 13 ∷ 10 ∷ []
item_text (plain b) = b ∷ []
item_text (escaped b) = 61 ∷ hex_digit (b / 16) ∷ hex_digit (b % 16) ∷ []

-- the octets that are written for items, without soft line breaks
unfoldable pub items_text : List Item → List ℕ
items_text list = flat_map item_text list

-- tab and space, which may not stand at the end of a line (RFC 2045 6.7, rule 3)
abbrev pub is_blank : ℕ → Bool
is_blank b = (b == 9) || (b == 32)

-- 33 to 126 but `=`, which may stand for themselves anywhere (RFC 2045 6.7, rule 2)
abbrev pub is_graphic : ℕ → Bool
is_graphic b = (nat_le 33 b && nat_le b 126) && not (b == 61)

-- an octet that may stand for itself within a line
abbrev pub may_stand_within : ℕ → Bool
may_stand_within b = is_graphic b || is_blank b

-- a CR LF pair stands here
abbrev pub begins_break : List ℕ → Bool
begins_break [] = false
begins_break (b ∷ []) = false
begins_break (b ∷ c ∷ rest) = (b == 13) && (c == 10)

-- a line of the input ends here: a CR LF pair stands here, or nothing
abbrev pub ends_line : List ℕ → Bool
ends_line [] = true
ends_line (b ∷ rest) = begins_break (b ∷ rest)

-- the last octet is a tab or a space
abbrev pub ends_blank : List ℕ → Bool
ends_blank [] = false
ends_blank (b ∷ []) = is_blank b
ends_blank (b ∷ c ∷ rest) = ends_blank (c ∷ rest)

-- an octet, by what follows it: it stands for itself, but no tab or space does at the end of a line
-- (RFC 2045 6.7, rules 2 and 3)
abbrev pub octet_item : ℕ → List ℕ → Item
octet_item b rest =
    if may_stand_within b && not (is_blank b && ends_line rest) then plain b else escaped b

-- CR LF pairs are line breaks
abbrev pub keeps_breaks : InputMode → Bool
keeps_breaks Text = true
keeps_breaks Binary = false

-- a CR LF pair: a line break of a text, elsewhere two octets like others (RFC 2045 6.7, rule 4)
abbrev pub pair_items : InputMode → List Item
pair_items mode = if keeps_breaks mode then hard_break ∷ [] else escaped 13 ∷ escaped 10 ∷ []

-- the items of an input
unfoldable pub items : InputMode → List ℕ → List Item
items mode [] = []
items mode (b ∷ []) = octet_item b [] ∷ []
items mode (b ∷ c ∷ rest) =
    if begins_break (b ∷ c ∷ rest) then pair_items mode ++ items mode rest
    else octet_item b (c ∷ rest) ∷ items mode (c ∷ rest)

-- what an entry tells: as many of its octets as the fourth says
abbrev pub entry_text : List ℕ → List ℕ
entry_text entry = take (get_or entry 3 0) entry

-- the entry of an octet: itself where it stands for itself, or `=` and its two digits, and as the
-- fourth how many octets that are
abbrev pub octet_entry : Bool → ℕ → List ℕ
octet_entry stands b =
    (if stands then b else 61) ∷ hex_digit (b / 16) ∷ hex_digit (b % 16)
    ∷ (if stands then 1 else 3) ∷ []
