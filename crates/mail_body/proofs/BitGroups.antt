-- Letters' six-bit values in fours, and the octets that they make.
use Rattle.std.proofs.Common.{◌≡◌, ℕ, ◌+◌, ◌*◌, ◌/◌, ◌%◌, ◌<◌, List, [], ◌∷◌, ◌++◌, arith}
use Rattle.words.specs.Base64.{bits, from_bits, octets}

-- an octet from its bits
octet-bits : (a b c d e f g h : ℕ) → from_bits (a ∷ b ∷ c ∷ d ∷ e ∷ f ∷ g ∷ h ∷ [])
    ≡ 128 * a + 64 * b + 32 * c + 16 * d + 8 * e + 4 * f + 2 * g + h
unfolding from_bits
octet-bits a b c d e f g h = omega arith

-- a six-bit value from its bits, and from some of them
high-two : (v : ℕ) → v < 64 → 2 * (v / 32 % 2) + v / 16 % 2 ≡ v / 16
high-two v h = omega arith

low-two : (v : ℕ) → 2 * (v / 2 % 2) + v / 1 % 2 ≡ v % 4
low-two v = omega arith

high-four : (v : ℕ) → v < 64 → 8 * (v / 32 % 2) + 4 * (v / 16 % 2) + 2 * (v / 8 % 2) + v / 4 % 2 ≡ v / 4
high-four v h = omega arith

low-four : (v : ℕ) → 8 * (v / 8 % 2) + 4 * (v / 4 % 2) + 2 * (v / 2 % 2) + v / 1 % 2 ≡ v % 16
low-four v = omega arith

all-six : (v : ℕ) → v < 64 → 32 * (v / 32 % 2) + 16 * (v / 16 % 2) + 8 * (v / 8 % 2) + 4 * (v / 4 % 2) + 2 * (v / 2 % 2) + v / 1 % 2 ≡ v
all-six v h = omega arith

-- the octets of two six-bit values
first-octet : (a b : ℕ) → a < 64 → b < 64
    → from_bits (a / 32 % 2 ∷ a / 16 % 2 ∷ a / 8 % 2 ∷ a / 4 % 2 ∷ a / 2 % 2 ∷ a / 1 % 2 ∷ b / 32 % 2 ∷ b / 16 % 2 ∷ [])
    ≡ a * 4 + b / 16
first-octet a b ha hb =
    omega (arith, octet-bits (a / 32 % 2) (a / 16 % 2) (a / 8 % 2) (a / 4 % 2) (a / 2 % 2) (a / 1 % 2) (b / 32 % 2) (b / 16 % 2), all-six a ha, high-two b hb)

second-octet : (b c : ℕ) → b < 64 → c < 64
    → from_bits (b / 8 % 2 ∷ b / 4 % 2 ∷ b / 2 % 2 ∷ b / 1 % 2 ∷ c / 32 % 2 ∷ c / 16 % 2 ∷ c / 8 % 2 ∷ c / 4 % 2 ∷ [])
    ≡ b % 16 * 16 + c / 4
second-octet b c hb hc =
    omega (arith, octet-bits (b / 8 % 2) (b / 4 % 2) (b / 2 % 2) (b / 1 % 2) (c / 32 % 2) (c / 16 % 2) (c / 8 % 2) (c / 4 % 2), low-four b, high-four c hc)

third-octet : (c d : ℕ) → c < 64 → d < 64
    → from_bits (c / 2 % 2 ∷ c / 1 % 2 ∷ d / 32 % 2 ∷ d / 16 % 2 ∷ d / 8 % 2 ∷ d / 4 % 2 ∷ d / 2 % 2 ∷ d / 1 % 2 ∷ [])
    ≡ c % 4 * 64 + d
third-octet c d hc hd =
    omega (arith, octet-bits (c / 2 % 2) (c / 1 % 2) (d / 32 % 2) (d / 16 % 2) (d / 8 % 2) (d / 4 % 2) (d / 2 % 2) (d / 1 % 2), low-two c, all-six d hd)

-- the octets of four values and more, of three, and of two
pub octets-four : (a b c d : ℕ) (rest : List ℕ) → a < 64 → b < 64 → c < 64 → d < 64
    → octets (bits 6 a ++ (bits 6 b ++ (bits 6 c ++ (bits 6 d ++ rest))))
    ≡ (a * 4 + b / 16) ∷ (b % 16 * 16 + c / 4) ∷ (c % 4 * 64 + d) ∷ octets rest
unfolding bits octets
octets-four a b c d rest ha hb hc hd i = first-octet a b ha hb i ∷ second-octet b c hb hc i ∷ third-octet c d hc hd i ∷ octets rest

pub octets-three : (a b c : ℕ) → a < 64 → b < 64 → c < 64
    → octets (bits 6 a ++ (bits 6 b ++ (bits 6 c ++ []))) ≡ (a * 4 + b / 16) ∷ (b % 16 * 16 + c / 4) ∷ []
unfolding bits octets
octets-three a b c ha hb hc i = first-octet a b ha hb i ∷ second-octet b c hb hc i ∷ []

pub octets-two : (a b : ℕ) → a < 64 → b < 64 → octets (bits 6 a ++ (bits 6 b ++ [])) ≡ (a * 4 + b / 16) ∷ []
unfolding bits octets
octets-two a b ha hb i = first-octet a b ha hb i ∷ []
