-- What kernels say of lanes: of a list of bytes, or of units of UTF-16, which are numbers.
use Rattle.std.specs.Prelude.{ℕ, ◌+◌, ◌*◌, ◌/◌, ◌%◌, ◌&&◌, ◌||◌, Bool, nat_le, nat_lt, List, []}
use Rattle.std.specs.Prelude.{◌∷◌, Option, get_or, option_map}
use Rattle.std.specs.List.{position, list_all}

-- the number is at least `least`
abbrev pub is_from : ℕ → ℕ → Bool
is_from least x = nat_le least x

-- the number is at least `least` and below `end`
abbrev pub is_in : ℕ → ℕ → ℕ → Bool
is_in least end x = nat_le least x && nat_lt x end

-- all are below `end`
abbrev pub all_below : ℕ → List ℕ → Bool
all_below end xs = list_all (λ x. nat_lt x end) xs

-- the byte or unit lies past ASCII
abbrev pub is_past_ascii : ℕ → Bool
is_past_ascii x = is_from 0x80 x

-- no first byte of a sequence of UTF-8 whose scalar is below U+0100, nor a byte of ASCII, nor one
-- that follows in a sequence
abbrev pub is_past_latin1_lead : ℕ → Bool
is_past_latin1_lead x = is_from 0xC4 x

-- the unit is a surrogate
abbrev pub is_surrogate : ℕ → Bool
is_surrogate x = is_in 0xD800 0xE000 x

-- the first that passes, with its place; none where none does
abbrev pub first_at : (ℕ → Bool) → List ℕ → Option (ℕ × ℕ)
first_at passes xs = option_map (λ k. (get_or xs k 0, k)) (position passes xs)

-- the units that right-to-left text may have: of the blocks Hebrew to Arabic Extended-A, of the
-- presentation forms of Hebrew and Arabic, the leads of right-to-left planes, and four marks of
-- direction
abbrev pub may_be_bidi : ℕ → Bool
may_be_bidi x =
    is_in 0x590 0x900 x
    || is_in 0xFB1D 0xFE00 x
    || is_in 0xFE70 0xFEFF x
    || is_in 0xD802 0xD804 x
    || is_in 0xD83A 0xD83C x
    || is_in 0x200F 0x2010 x
    || is_in 0x202B 0x202C x
    || is_in 0x202E 0x202F x
    || is_in 0x2067 0x2068 x

-- a unit with its two bytes exchanged
abbrev pub swapped : ℕ → ℕ
swapped x = x % 256 * 256 + x / 256

-- the low byte of a unit
abbrev pub low_byte : ℕ → ℕ
low_byte x = x % 256

-- bytes in twos, the low one first
abbrev pub units_of : List ℕ → List ℕ
units_of [] = []
units_of (low ∷ []) = []
units_of (low ∷ high ∷ rest) = (low + 256 * high) ∷ units_of rest
