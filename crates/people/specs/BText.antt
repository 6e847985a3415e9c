-- The octets of a B text, read leniently: RFC 2047, section 4.1, and RFC 2045, section 6.8.
use Rattle.std.specs.Prelude.{ℕ, ◌+◌, ◌-◌, ◌*◌, ◌/◌, ◌%◌, Bool, ◌||◌, ◌&&◌, ◌==◌, nat_le}
use Rattle.std.specs.Prelude.{if◌then◌else◌, List, [], ◌∷◌, ◌++◌, length}

-- a letter of the alphabet: A to Z, a to z, 0 to 9, `+` and `/` (table 1)
abbrev pub is_letter : ℕ → Bool
is_letter b =
    (nat_le 65 b && nat_le b 90) || (nat_le 97 b && nat_le b 122) || (nat_le 48 b && nat_le b 57)
    || b == 43 || b == 47

-- the six-bit value of a letter
abbrev pub letter_value : ℕ → ℕ
letter_value b =
    if nat_le 97 b then b - 71
    else if nat_le 65 b then b - 65
    else if nat_le 48 b then b + 4
    else if b == 43 then 62
    else 63

-- the octets of a group of six-bit values: four give three octets, three give two, two give one,
-- and one gives none; spare bits are dropped
abbrev pub group_octets : List ℕ → List ℕ
group_octets (a ∷ b ∷ c ∷ d ∷ more) = (a * 4 + b / 16) ∷ (b % 16 * 16 + c / 4) ∷ (c % 4 * 64 + d)
    ∷ []
group_octets (a ∷ b ∷ c ∷ []) = (a * 4 + b / 16) ∷ (b % 16 * 16 + c / 4) ∷ []
group_octets (a ∷ b ∷ []) = (a * 4 + b / 16) ∷ []
group_octets (a ∷ []) = []
group_octets [] = []

-- an `=` closes a group of two or three letters; any other `=` is nothing
abbrev pub closes : List ℕ → ℕ → Bool
closes group b = b == 61 && nat_le 2 (length group)

-- the octets of a text behind the letters of a group that isn't closed yet: the fourth letter closes
-- it, or `=` directly behind its second or third; bytes outside of the alphabet are ignored, and the
-- letters behind the last closed group are a group too
unfoldable pub b_octets_behind : List ℕ → List ℕ → List ℕ
b_octets_behind group [] = group_octets group
b_octets_behind group (b ∷ rest) =
    if is_letter b then (if nat_le 3 (length group)
    then group_octets (group ++ letter_value b ∷ []) ++ b_octets_behind [] rest
    else b_octets_behind (group ++ letter_value b ∷ []) rest)
    else if closes group b then group_octets group ++ b_octets_behind [] rest
    else b_octets_behind group rest

-- the octets of a text; missing, surplus and misplaced padding is no fault
abbrev pub b_octets : List ℕ → List ℕ
b_octets text = b_octets_behind [] text
