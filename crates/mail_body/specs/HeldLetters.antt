-- What a decoder holds between pieces.
use Rattle.std.specs.Prelude.{◌≡◌, ℕ, Bool, true, false, List, [], ◌∷◌, ◌++◌, take, drop}
use Rattle.mail_body.specs.Base64.{base64_body}
use Rattle.mail_body.specs.declared.letters.held.HeldLetters.{HeldLetters}
use Rattle.mail_body.specs.declared.letters.held.HeldLetters.TheVariants.{NoLetter, OneLetter, TwoLetters, ThreeLetters, Ended}
use Rattle.mail_body.specs.declared.letters.held.Octets.{Octets}
use Rattle.mail_body.specs.declared.letters.held.Octets.TheVariants.{NoOctet, OneOctet, TwoOctets, ThreeOctets}

-- the letters that are held
abbrev pub held_letters : HeldLetters → List ℕ
held_letters NoLetter = []
held_letters (OneLetter a) = a.byte ∷ []
held_letters (TwoLetters a b) = a.byte ∷ b.byte ∷ []
held_letters (ThreeLetters a b c) = a.byte ∷ b.byte ∷ c.byte ∷ []
held_letters Ended = []

-- `=` was seen
abbrev pub is_ended : HeldLetters → Bool
is_ended NoLetter = false
is_ended (OneLetter a) = false
is_ended (TwoLetters a b) = false
is_ended (ThreeLetters a b c) = false
is_ended Ended = true

-- what is still to come where this is held and these bytes follow: nothing once `=` was seen
abbrev pub base64_rest : HeldLetters → List ℕ → List ℕ
base64_rest NoLetter rest = base64_body rest
base64_rest (OneLetter a) rest = base64_body (a.byte ∷ rest)
base64_rest (TwoLetters a b) rest = base64_body (a.byte ∷ b.byte ∷ rest)
base64_rest (ThreeLetters a b c) rest = base64_body (a.byte ∷ b.byte ∷ c.byte ∷ rest)
base64_rest Ended rest = []

-- as a list
abbrev pub octet_list : Octets → List ℕ
octet_list NoOctet = []
octet_list (OneOctet a) = a ∷ []
octet_list (TwoOctets a b) = a ∷ b ∷ []
octet_list (ThreeOctets a b c) = a ∷ b ∷ c ∷ []

-- what is written before and what is still to come is the same after a step as before it: the
-- step goes from a place in the piece and one in the output to others
abbrev pub Goes : List ℕ → HeldLetters → ℕ → List ℕ → ℕ → HeldLetters → ℕ → List ℕ → ℕ → Type 0
Goes piece held at out filled held' at' out' filled' = (rest : List ℕ) →
    take filled' out' ++ base64_rest held' (drop at' piece ++ rest)
    ≡ take filled out ++ base64_rest held (drop at piece ++ rest)
