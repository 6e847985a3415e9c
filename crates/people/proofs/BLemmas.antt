-- The octets of B texts, byte by byte.
use Rattle.std.proofs.Common.{◌≡◌, ℕ, true, false, ◌==◌, ◌&&◌, nat_le, List, [], ◌∷◌, ◌++◌, length, refl, sym, ap, ◌∙◌, append_assoc}
use Rattle.std.proofs.lemmas.Bool.{cond-true, cond-false}
use Rattle.people.specs.Groups.{behind_letter}
use Rattle.people.specs.BText.{is_letter, letter_value, group_octets, closes, b_octets_behind}

-- a letter that doesn't close its group, and one that does
pub letter-joins : (group : List ℕ) (b : ℕ) (rest : List ℕ) → is_letter b ≡ true → nat_le 3 (length group) ≡ false
    → b_octets_behind group (b ∷ rest) ≡ b_octets_behind (group ++ letter_value b ∷ []) rest
unfolding b_octets_behind
letter-joins group b rest e f =
    cond-true (is_letter b) _ _ e ∙ cond-false (nat_le 3 (length group)) (group_octets (group ++ letter_value b ∷ []) ++ b_octets_behind [] rest) (b_octets_behind (group ++ letter_value b ∷ []) rest) f

pub letter-closes : (group : List ℕ) (b : ℕ) (rest : List ℕ) → is_letter b ≡ true → nat_le 3 (length group) ≡ true
    → b_octets_behind group (b ∷ rest) ≡ group_octets (group ++ letter_value b ∷ []) ++ b_octets_behind [] rest
unfolding b_octets_behind
letter-closes group b rest e f =
    cond-true (is_letter b) _ _ e ∙ cond-true (nat_le 3 (length group)) (group_octets (group ++ letter_value b ∷ []) ++ b_octets_behind [] rest) (b_octets_behind (group ++ letter_value b ∷ []) rest) f

-- an `=` that closes a group, and any other byte
pub pad-closes : (group rest : List ℕ) → nat_le 2 (length group) ≡ true → b_octets_behind group (61 ∷ rest) ≡ group_octets group ++ b_octets_behind [] rest
unfolding b_octets_behind
pad-closes group rest f = cond-true (closes group 61) (group_octets group ++ b_octets_behind [] rest) (b_octets_behind group rest) f

pub pad-ignored : (group rest : List ℕ) → nat_le 2 (length group) ≡ false → b_octets_behind group (61 ∷ rest) ≡ b_octets_behind group rest
unfolding b_octets_behind
pad-ignored group rest f = cond-false (closes group 61) (group_octets group ++ b_octets_behind [] rest) (b_octets_behind group rest) f

pub other-ignored : (group : List ℕ) (b : ℕ) (rest : List ℕ) → is_letter b ≡ false → (b == 61) ≡ false → b_octets_behind group (b ∷ rest) ≡ b_octets_behind group rest
unfolding b_octets_behind
other-ignored group b rest e f =
    cond-false (is_letter b) _ _ e ∙ cond-false (closes group b) (group_octets group ++ b_octets_behind [] rest) (b_octets_behind group rest) (ap (λ t. t && nat_le 2 (length group)) f)

pub at-end : (group : List ℕ) → b_octets_behind group [] ≡ group_octets group
unfolding b_octets_behind
at-end group = refl

-- the octets so far, and those still to come
pub pushed : (octets more next : List ℕ) (to_come rest : List ℕ) → next ≡ octets ++ more → to_come ≡ more ++ rest → next ++ rest ≡ octets ++ to_come
pushed octets more next to_come rest n e = ap (λ z. z ++ rest) n ∙ (append_assoc octets more rest ∙ ap (λ z. octets ++ z) (sym e))

-- one more letter
pub letter-goes : (group : List ℕ) (b : ℕ) (rest : List ℕ) → is_letter b ≡ true → b_octets_behind group (b ∷ rest) ≡ behind_letter group (letter_value b) rest
unfolding b_octets_behind
letter-goes group b rest e = cond-true (is_letter b) (behind_letter group (letter_value b) rest) _ e
