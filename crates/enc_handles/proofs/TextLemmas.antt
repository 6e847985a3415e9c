-- The bytes of a scalar, and two writes in a row.
use Rattle.std.proofs.Common.{◌≡◌, ℕ, ◌+◌, ◌/◌, ◌%◌, ◌<◌, ◌≤◌, List, [], ◌∷◌, ◌++◌, length, take, ap, ◌∙◌, append_assoc, length-append, arith}
use Rattle.std.proofs.lemmas.Bool.Decides.{nat_tests}
use lib.Utf8.{encode}
use Rattle.enc_handles.specs.UnitSlice.{Puts}

pub encode_one : (c : ℕ) → c < 0x80 → encode c ≡ c ∷ []
unfolding encode
encode_one c small = grind (arith, nat_tests)

pub encode_two : (c : ℕ) → 0x80 ≤ c → c < 0x800 → encode c ≡ (0xC0 + c / 0x40) ∷ (0x80 + c % 0x40) ∷ []
unfolding encode
encode_two c low high = grind (arith, nat_tests)

pub encode_three : (c : ℕ) → 0x800 ≤ c → c < 0x1_0000
    → encode c ≡ (0xE0 + c / 0x1000) ∷ (0x80 + c / 0x40 % 0x40) ∷ (0x80 + c % 0x40) ∷ []
unfolding encode
encode_three c low high = grind (arith, nat_tests)

pub encode_four : (c : ℕ) → 0x1_0000 ≤ c
    → encode c ≡ (0xF0 + c / 0x4_0000) ∷ (0x80 + c / 0x1000 % 0x40) ∷ (0x80 + c / 0x40 % 0x40) ∷ (0x80 + c % 0x40) ∷ []
unfolding encode
encode_four c low = grind (arith, nat_tests)

-- a write and a write behind it are one write
pub Puts-append : (a b c : List ℕ) (at next : ℕ) (xs ys : List ℕ)
    → Puts a b at xs → next ≡ at + length xs → Puts b c next ys → Puts a c at (xs ++ ys)
Puts-append a b c at next xs ys first here second = record {
  front =
      let behind : next + length ys ≡ at + length (xs ++ ys) = omega (arith, length-append xs ys) in
      let whole : take (next + length ys) c ≡ take next b ++ ys = second.front in
      let before : take next b ≡ take at a ++ xs = rw here first.front in
      rw (← behind) (whole ∙ (ap (λ l. l ++ ys) before ∙ append_assoc (take at a) xs ys));
  same_length = second.same_length ∙ first.same_length;
}

pub length-encode_two : (c : ℕ) → 0x80 ≤ c → c < 0x800 → length (encode c) ≡ 2
length-encode_two c low high = ap length (encode_two c low high)

pub length-encode_three : (c : ℕ) → 0x800 ≤ c → c < 0x1_0000 → length (encode c) ≡ 3
length-encode_three c low high = ap length (encode_three c low high)

pub length-encode_four : (c : ℕ) → 0x1_0000 ≤ c → length (encode c) ≡ 4
length-encode_four c low = ap length (encode_four c low)

pub length-encode_one : (c : ℕ) → c < 0x80 → length (encode c) ≡ 1
length-encode_one c small = ap length (encode_one c small)

-- how long the encoding of a scalar is
pub ruleset text_lengths = (length-encode_one, length-encode_two, length-encode_three, length-encode_four)
