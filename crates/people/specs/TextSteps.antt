-- A word's text, byte by byte.
use Rattle.std.specs.Prelude.{◌≡◌, ℕ, ◌<◌, Bool, not, ◌||◌, ◌&&◌, ◌==◌, if◌then◌else◌, List, []}
use Rattle.std.specs.Prelude.{◌∷◌, Option, Some, None, length, drop, option_and_then}
use Rattle.std.specs.List.{list_all}
use Rattle.std.specs.Option.{option_map}
use Rattle.people.specs.declared.frame.Look.{Look}
use Rattle.people.specs.declared.frame.Look.TheVariants.{Inside, End, Broken}
use Rattle.people.specs.Frame.{Cut, begins_in, has_start, cut_at_end}

-- no CR and no LF
abbrev pub is_inside : ℕ → Bool
is_inside b = not (b == 13 || b == 10)

-- a text of a word, where an `=` stands directly before it, or none
abbrev pub is_text_after : Bool → List ℕ → Bool
is_text_after equals text = list_all is_inside text
    && not ((equals && begins_in 63 text) || has_start text)

abbrev pub kept_after : Bool → Cut → Option Cut
kept_after equals cut = if is_text_after equals cut.0 then Some cut else None

-- the text in front of the first `?=`, where an `=` stands directly before it, or none
abbrev pub cut_after : Bool → List ℕ → Option Cut
cut_after equals s = option_and_then (kept_after equals) (cut_at_end s)

-- a byte before a text
abbrev pub with_byte : ℕ → Cut → Cut
with_byte b cut = (b ∷ cut.0, cut.1)

-- what a byte of a text and what is behind it say
abbrev pub LooksAt : Bool → ℕ → List ℕ → Look → Type 0
LooksAt equals b rest Inside =
    cut_after equals (b ∷ rest) ≡ option_map (with_byte b) (cut_after (b == 61) rest)
LooksAt equals b rest End = (cut_after equals (b ∷ rest) ≡ Some ([], drop 1 rest))
    × (0 < length rest)
LooksAt equals b rest Broken = cut_after equals (b ∷ rest) ≡ None
