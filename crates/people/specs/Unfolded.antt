-- A header's value without its folds: RFC 5322, section 2.2.3.
use Rattle.std.specs.Prelude.{ℕ, Bool, false, ◌||◌, ◌&&◌, ◌==◌, if◌then◌else◌, List, [], ◌∷◌}

-- a space or a tab: RFC 5322, section 2.2.2, `WSP`
abbrev pub is_blank : ℕ → Bool
is_blank b = b == 32 || b == 9

-- a blank stands first
abbrev pub begins_blank : List ℕ → Bool
begins_blank [] = false
begins_blank (b ∷ rest) = is_blank b

-- an LF stands first, and a blank directly behind it
abbrev pub begins_fold : List ℕ → Bool
begins_fold [] = false
begins_fold (b ∷ rest) = b == 10 && begins_blank rest

-- a byte before these belongs to a fold: an LF directly before a blank, or a CR directly before
-- such an LF
abbrev pub is_folding : ℕ → List ℕ → Bool
is_folding b rest = (b == 10 && begins_blank rest) || (b == 13 && begins_fold rest)

-- a list without its folds, once: unfolding takes the line end away and leaves the white space
unfoldable pub unfolded : List ℕ → List ℕ
unfolded [] = []
unfolded (b ∷ rest) = if is_folding b rest then unfolded rest else b ∷ unfolded rest

-- what stands before a fold's LF, without one CR at its end
abbrev pub without_return : List ℕ → List ℕ
without_return [] = []
without_return (b ∷ []) = if b == 13 then [] else b ∷ []
without_return (b ∷ c ∷ rest) = b ∷ without_return (c ∷ rest)
