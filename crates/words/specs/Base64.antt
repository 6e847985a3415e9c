-- The value of a B text: RFC 2047, section 4.1, and RFC 2045, section 6.8.
use Rattle.std.specs.Prelude.{ℕ, zero, suc, ◌+◌, ◌-◌, ◌*◌, ◌/◌, ◌%◌, ◌^◌, Bool, ◌||◌, ◌&&◌, ◌==◌}
use Rattle.std.specs.Prelude.{nat_le, if◌then◌else◌, Option, Some, None, List, [], ◌∷◌, length}
use Rattle.std.specs.Prelude.{take}
use Rattle.std.specs.List.{flat_map, list_all, suffix_len}

-- a letter of the alphabet: A to Z, a to z, 0 to 9, `+` and `/` (RFC 2045, section 6.8, table 1)
abbrev pub is_letter : ℕ → Bool
is_letter b =
    (nat_le 65 b && nat_le b 90) || (nat_le 97 b && nat_le b 122) || (nat_le 48 b && nat_le b 57)
    || b == 43 || b == 47

-- the six-bit value of a letter
abbrev pub letter_value : ℕ → ℕ
letter_value b =
    if nat_le 97 b then b - 71
    else if nat_le 65 b then b - 65
    else if nat_le 48 b then b + 4
    else if b == 43 then 62
    else 63

-- the lowest `count` bits of a number, the highest of them first
unfoldable pub bits : ℕ → ℕ → List ℕ
bits zero n = []
bits (suc count) n = (n / 2 ^ count) % 2 ∷ bits count n

-- a number from its bits, the highest first
unfoldable pub from_bits : List ℕ → ℕ
from_bits [] = 0
from_bits (b ∷ bs) = b * 2 ^ length bs + from_bits bs

-- bits in groups of eight, each group an octet; bits that are left over are dropped
unfoldable pub octets : List ℕ → List ℕ
octets (a ∷ b ∷ c ∷ d ∷ e ∷ f ∷ g ∷ h ∷ rest) = from_bits (a ∷ b ∷ c ∷ d ∷ e ∷ f ∷ g ∷ h ∷ [])
    ∷ octets rest
octets bs = []

-- how many `=` a text ends in
abbrev pub padding_len : List ℕ → ℕ
padding_len text = suffix_len (λ b. b == 61) text

-- the letters before the padding
abbrev pub letters : List ℕ → List ℕ
letters text = take (length text - padding_len text) text

-- a text in fours of letters, the last of which may have one or two `=` in place of its last
-- letters; narrower than RFC 2045, section 6.8, by which a decoder ignores bytes outside the
-- alphabet: a text with such a byte has no value here
abbrev pub is_base64 : List ℕ → Bool
is_base64 text = (length text % 4 == 0) && nat_le (padding_len text) 2
    && list_all is_letter (letters text)

-- the octets that a B text stands for: its letters' six bits each, taken in eights; bits of the
-- last letter that fill no octet are dropped, whatever they are
unfoldable pub b_value : List ℕ → Option (List ℕ)
b_value text = if is_base64 text
    then Some (octets (flat_map (λ b. bits 6 (letter_value b)) (letters text))) else None
