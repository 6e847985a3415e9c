-- What a program holds of a B text on its way through it.
use Rattle.std.specs.Prelude.{◌≡◌, ℕ, List, [], ◌∷◌, ◌++◌, nat_le, length, if◌then◌else◌}
use Rattle.people.specs.declared.b_text.Group.{Group}
use Rattle.people.specs.declared.b_text.Group.TheVariants.{NoLetter, OneLetter, TwoLetters}
use Rattle.people.specs.declared.b_text.Group.TheVariants.{ThreeLetters}
use Rattle.people.specs.BText.{group_octets, b_octets_behind}

-- the six-bit values of the group's letters
abbrev pub values : Group → List ℕ
values NoLetter = []
values (OneLetter a) = a.number ∷ []
values (TwoLetters a b) = a.number ∷ b.number ∷ []
values (ThreeLetters a b c) = a.number ∷ b.number ∷ c.number ∷ []

-- the octets of a group and one more letter, and what follows
abbrev pub behind_letter : List ℕ → ℕ → List ℕ → List ℕ
behind_letter group value rest =
    if nat_le 3 (length group) then group_octets (group ++ value ∷ []) ++ b_octets_behind [] rest
    else b_octets_behind (group ++ value ∷ []) rest

-- octets and a group, before and after one more letter: with what follows they give the same
abbrev pub LetterGoes : List ℕ → List ℕ → ℕ → List ℕ → List ℕ → Type 0
LetterGoes octets group value octets' group' = (rest : List ℕ) →
    octets' ++ b_octets_behind group' rest ≡ octets ++ behind_letter group value rest

-- the same of one more byte
abbrev pub ByteGoes : List ℕ → List ℕ → ℕ → List ℕ → List ℕ → Type 0
ByteGoes octets group b octets' group' = (rest : List ℕ) →
    octets' ++ b_octets_behind group' rest ≡ octets ++ b_octets_behind group (b ∷ rest)
