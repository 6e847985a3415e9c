-- The lines of a text that end in CR LF, or in LF alone (RFC 5322, section 2.1).
use Rattle.std.specs.Prelude.{ℕ, ◌==◌, ◌||◌, Bool, false, if◌then◌else◌, List, [], ◌∷◌, map}

-- a byte in front of the first of the parts
abbrev pub onto_first : ℕ → List (List ℕ) → List (List ℕ)
onto_first b [] = (b ∷ []) ∷ []
onto_first b (part ∷ parts) = (b ∷ part) ∷ parts

-- a text cut at each LF; behind an LF at the end there is no part, and the empty text has none
abbrev pub lf_parts : List ℕ → List (List ℕ)
lf_parts [] = []
lf_parts (b ∷ bytes) = if b == 10 then [] ∷ lf_parts bytes else onto_first b (lf_parts bytes)

-- a part without one CR at its end
abbrev pub without_last_cr : List ℕ → List ℕ
without_last_cr [] = []
without_last_cr (b ∷ []) = if b == 13 then [] else b ∷ []
without_last_cr (b ∷ c ∷ bytes) = b ∷ without_last_cr (c ∷ bytes)

-- the lines of a text, without their ends: its parts, each without one CR at its end, the last too
abbrev pub text_lines : List ℕ → List (List ℕ)
text_lines text = map without_last_cr (lf_parts text)

-- whether there is an LF
abbrev pub has_lf : List ℕ → Bool
has_lf [] = false
has_lf (b ∷ bytes) = (b == 10) || has_lf bytes
