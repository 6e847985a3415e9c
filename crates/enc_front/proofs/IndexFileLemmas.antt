-- The lines of an index file, and the numbers that their digits write.
use Rattle.std.proofs.Common.{◌≡◌, ◌≢◌, ℕ, ◌+◌, ◌*◌, ◌^◌, ◌<◌, ◌≤◌, zero, suc, Bool, true, false}
use Rattle.std.proofs.Common.{List, [], ◌∷◌, ◌++◌, length, take, drop, Fits, w32, Ok, Err, Result}
use Rattle.std.proofs.Common.{refl, ◌∙◌, ap, arith, ◌&&◌, ◌||◌}
use Rattle.std.specs.Prelude.{slice_index, nat_le, ◌==◌}
use Rattle.std.specs.List.{prefix_len}
use Rattle.std.proofs.lemmas.Bool.{leb-true}
use Rattle.std.proofs.lemmas.Bool.Decides.{nat_tests}
use Rattle.std.proofs.lemmas.List.{append_assoc}
use Rattle.std.proofs.Math.Nat.{mul-le-mul_left, pow-le-pow_right}
use Rattle.std.proofs.lemmas.Grind.{pow_more}
use Rattle.enc_front.specs.IndexFile.{AreDigits, before_pairs, digit_number, is_of_class, is_digit}
use Rattle.enc_front.specs.IndexFile.{lines_of}
use Rattle.enc_front.specs.declared.index_file.Class.TheVariants.{Digit, HexDigit}

-- a line ends at the first LF
pub line_at : (text : List ℕ) (i : ℕ) → i < length text
    → ((k : ℕ) → k < i → slice_index text k ≢ 10) → slice_index text i ≡ 10
    → lines_of text ≡ take i text ∷ lines_of (drop (suc i) text)
line_at [] i within before at = absurd (omega arith)
line_at (b ∷ text) zero within before at =
    let test : (b == 10) ≡ true = grind (arith, nat_tests) in
    rw test refl
line_at (b ∷ text) (suc i) within before at =
    let first : b ≢ 10 = before 0 (omega arith) in
    let test : (b == 10) ≡ false = grind (arith, nat_tests) in
    rw (test, line_at text i (omega arith) (λ k below. before (suc k) (omega arith)) at) refl

more : (i : ℕ) → suc i ≡ i + 1
more i = omega arith

pub line_cut : (text : List ℕ) (i : ℕ) → i < length text
    → ((k : ℕ) → k < i → slice_index text k ≢ 10) → slice_index text i ≡ 10
    → lines_of text ≡ take i text ∷ lines_of (drop (i + 1) text)
line_cut text i within before at = line_at text i within before at
    ∙ ap (λ n. take i text ∷ lines_of (drop n text)) (more i)

pub line_whole : (text : List ℕ) → 0 < length text
    → ((k : ℕ) → k < length text → slice_index text k ≢ 10) → lines_of text ≡ text ∷ []
line_whole [] some before = absurd (omega arith)
line_whole (b ∷ []) some before =
    let first : b ≢ 10 = before 0 (omega arith) in
    let test : (b == 10) ≡ false = grind (arith, nat_tests) in
    rw test refl
line_whole (b ∷ c ∷ text) some before =
    let first : b ≢ 10 = before 0 (omega arith) in
    let test : (b == 10) ≡ false = grind (arith, nat_tests) in
    rw (test, line_whole (c ∷ text) (omega arith) (λ k below. before (suc k) (omega arith))) refl

-- pairs in front of others
pub before_more : (pairs more : List (ℕ × ℕ)) (rest : Result (List (ℕ × ℕ)) ℕ)
    → before_pairs (pairs ++ more) rest ≡ before_pairs pairs (before_pairs more rest)
before_more pairs more (Ok rest) = ap Ok (append_assoc pairs more rest)
before_more pairs more (Err number) = refl

pub before_none : (rest : Result (List (ℕ × ℕ)) ℕ) → before_pairs [] rest ≡ rest
before_none (Ok rest) = refl
before_none (Err number) = refl

-- one more digit
pub number_below : (base number digit i n : ℕ) → number < base ^ i → digit < base → i < n
    → base ^ n ≤ 2 ^ 32 → (base * number + digit < base ^ (i + 1))
    × Fits w32 (base * number + digit)
number_below base number digit i n below is within fits =
    let some : 0 < base = omega arith in
    let step : base * (number + 1) ≤ base * base ^ i = mul-le-mul_left base (omega arith) in
    let more : base ^ (i + 1) ≡ base ^ i * base = pow_more base i in
    let most : base ^ (i + 1) ≤ base ^ n = pow-le-pow_right some (omega arith) in
    let one : base * number + digit < base ^ (i + 1) = rw more (omega arith) in
    (one, omega arith)

and_parts : (x y : Bool) → (x && y) ≡ true → (x ≡ true) × (y ≡ true)
and_parts true y h = (refl, h)
and_parts false y h = cc

digit_below : (b : ℕ) → is_digit b ≡ true → digit_number b < 10
digit_below b h =
    let parts = and_parts (nat_le 48 b) (nat_le b 57) h in
    let low = leb-true 48 b parts.0 in
    let high = leb-true b 57 parts.1 in
    rw parts.1 (omega arith)

pub digits_below : (b : ℕ) → is_of_class Digit b ≡ true → digit_number b < 10
digits_below b h = digit_below b h

upper_below : (b : ℕ) → 65 ≤ b → b ≤ 70 → digit_number b < 16
upper_below b low high =
    let first : nat_le b 57 ≡ false = grind (arith, nat_tests) in
    let second : nat_le b 70 ≡ true = grind (arith, nat_tests) in
    rw (first, second) (omega arith)

lower_below : (b : ℕ) → 97 ≤ b → b ≤ 102 → digit_number b < 16
lower_below b low high =
    let first : nat_le b 57 ≡ false = grind (arith, nat_tests) in
    let second : nat_le b 70 ≡ false = grind (arith, nat_tests) in
    rw (first, second) (omega arith)

pub hex_digits_below : (b : ℕ) → is_of_class HexDigit b ≡ true → digit_number b < 16
hex_digits_below b h = by_digit (is_digit b) refl h
  where
    by_lower : (y z : Bool) → (nat_le 97 b && nat_le b 102) ≡ true → digit_number b < 16
    by_lower y z k =
        let parts = and_parts (nat_le 97 b) (nat_le b 102) k in
        lower_below b (leb-true 97 b parts.0) (leb-true b 102 parts.1)

    by_upper : (t : Bool) → (nat_le 65 b && nat_le b 70) ≡ t
        → (t || (nat_le 97 b && nat_le b 102)) ≡ true → digit_number b < 16
    by_upper true e k =
        let parts = and_parts (nat_le 65 b) (nat_le b 70) e in
        upper_below b (leb-true 65 b parts.0) (leb-true b 70 parts.1)
    by_upper false e k = by_lower true true k

    by_digit : (t : Bool) → is_digit b ≡ t
        → (t || ((nat_le 65 b && nat_le b 70) || (nat_le 97 b && nat_le b 102))) ≡ true
        → digit_number b < 16
    by_digit true e k = let below = digit_below b e in omega arith
    by_digit false e k = by_upper (nat_le 65 b && nat_le b 70) refl k

-- the bytes at the front that pass a test
pub front_digits : (test : ℕ → Bool) (base : ℕ) (text : List ℕ)
    → ((b : ℕ) → test b ≡ true → digit_number b < base)
    → AreDigits base (take (prefix_len test text) text)
front_digits test base [] below = λ k within. absurd (omega arith)
front_digits test base (b ∷ text) below = by_test (test b) refl (front_digits test base text below)
  where
    one_more : (n : ℕ) → 1 + n ≡ suc n
    one_more n = omega arith

    by_index : test b ≡ true → AreDigits base (take (prefix_len test text) text)
        → AreDigits base (b ∷ take (prefix_len test text) text)
    by_index e rest zero within = below b e
    by_index e rest (suc k) within = rest k (omega arith)

    by_test : (t : Bool) → test b ≡ t → AreDigits base (take (prefix_len test text) text)
        → AreDigits base (take (prefix_len test (b ∷ text)) (b ∷ text))
    by_test true e rest = rw (e, one_more (prefix_len test text)) (by_index e rest)
    by_test false e rest = rw e (λ k within. absurd (omega arith))

-- the digits at the front of a text
pub place_digits : (text : List ℕ) → AreDigits 10 (take (prefix_len (is_of_class Digit) text) text)
place_digits text = front_digits (is_of_class Digit) 10 text digits_below

pub scalar_digits : (text : List ℕ)
    → AreDigits 16 (take (prefix_len (is_of_class HexDigit) text) text)
scalar_digits text = front_digits (is_of_class HexDigit) 16 text hex_digits_below
