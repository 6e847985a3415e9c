-- The octets of a Q text: RFC 2047, section 4.2.
use Rattle.std.specs.Prelude.{ℕ, ◌+◌, ◌*◌, Bool, ◌==◌, ◌&&◌, if◌then◌else◌, List, [], ◌∷◌, Option}
use Rattle.std.specs.Prelude.{Some, None}
use Rattle.std.specs.Char.{digit_value, is_digit}

-- an underscore is a space, and any other byte is itself, also one past 7E
abbrev pub q_octet : ℕ → ℕ
q_octet b = if b == 95 then 32 else b

-- `=` and two hexadecimal digits of either case
abbrev pub is_escape : ℕ → ℕ → ℕ → Bool
is_escape b u v = b == 61 && (is_digit u 16 && is_digit v 16)

-- the octet that two hexadecimal digits say, high digit first
abbrev pub hex_octet : ℕ → ℕ → ℕ
hex_octet u v = digit_value u * 16 + digit_value v

-- the octets of a text, from left to right: there are no lines, nothing at an end is trimmed, and
-- an `=` without two digits stands for itself
unfoldable pub q_octets : List ℕ → List ℕ
q_octets [] = []
q_octets (b ∷ []) = q_octet b ∷ []
q_octets (b ∷ u ∷ []) = q_octet b ∷ q_octets (u ∷ [])
q_octets (b ∷ u ∷ v ∷ rest) = if is_escape b u v then hex_octet u v ∷ q_octets rest
    else q_octet b ∷ q_octets (u ∷ v ∷ rest)

-- the octet that two hexadecimal digits at the front say
abbrev pub two_digits : List ℕ → Option ℕ
two_digits [] = None
two_digits (u ∷ []) = None
two_digits (u ∷ v ∷ rest) = if is_digit u 16 && is_digit v 16 then Some (hex_octet u v) else None

-- the number that a byte says as a hexadecimal digit
abbrev pub hex_value : ℕ → Option ℕ
hex_value b = if is_digit b 16 then Some (digit_value b) else None
