-- A base64 mail body, read leniently (RFC 2045, section 6.8).
use Rattle.std.specs.Prelude.{ℕ, ◌+◌, ◌*◌, ◌/◌, ◌%◌, ◌==◌, if◌then◌else◌, List, [], ◌∷◌, map, filter}
use Rattle.std.specs.List.{before_first}
use Rattle.words.specs.Base64.{is_letter, letter_value}

-- the value of a letter, and 255 of another byte
unfoldable pub value_or_none : ℕ → ℕ
value_or_none b = if is_letter b then letter_value b else 255

-- fours of six-bit values give three octets each; of what is left, three give two, two give one,
-- and one gives none: spare bits are dropped
unfoldable pub octets_of : List ℕ → List ℕ
octets_of (a ∷ b ∷ c ∷ d ∷ rest) = (a * 4 + b / 16) ∷ (b % 16 * 16 + c / 4) ∷ (c % 4 * 64 + d)
    ∷ octets_of rest
octets_of (a ∷ b ∷ c ∷ []) = (a * 4 + b / 16) ∷ (b % 16 * 16 + c / 4) ∷ []
octets_of (a ∷ b ∷ []) = (a * 4 + b / 16) ∷ []
octets_of (a ∷ []) = []
octets_of [] = []

-- the letters before the first `=`, or all where there is none; other bytes are ignored (RFC 2045,
-- section 6.8; that nothing counts from the first `=` on is this project's rule)
unfoldable pub body_letters : List ℕ → List ℕ
body_letters body = filter is_letter (before_first (λ b. b == 61) body)

-- what a body stands for
unfoldable pub base64_body : List ℕ → List ℕ
base64_body body = octets_of (map letter_value (body_letters body))
