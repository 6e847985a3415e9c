-- The first bytes of a front by their places, and a front whose unit depends on what follows.
use Rattle.std.proofs.Common.{◌≡◌, ℕ, ◌<◌, ◌≤◌, List, [], ◌∷◌, ◌++◌, length, get_or, drop, refl, ap, sym, ◌∙◌, arith}
use Rattle.std.proofs.lemmas.List.{append-nil}
use Rattle.std.proofs.lemmas.List.Elements.{All-nil, All-cons}
use Rattle.enc_drivers.specs.declared.unit.Mode.{Mode}
use Rattle.enc_drivers.specs.Steps.{IsUndecided}
use Rattle.enc_drivers.specs.Units.{Code, AreBytes}

pub front_of_one : (front more : List ℕ) → 1 ≤ length front → front ++ more ≡ get_or front 0 0 ∷ (drop 1 front ++ more)
front_of_one [] more h = absurd (omega arith)
front_of_one (a ∷ front) more h = refl

pub front_of_two : (front more : List ℕ) → 2 ≤ length front → front ++ more ≡ get_or front 0 0 ∷ get_or front 1 0 ∷ (drop 2 front ++ more)
front_of_two [] more h = absurd (omega arith)
front_of_two (a ∷ []) more h = absurd (omega arith)
front_of_two (a ∷ b ∷ front) more h = refl

pub front_of_three : (front more : List ℕ) → 3 ≤ length front → front ++ more ≡ get_or front 0 0 ∷ get_or front 1 0 ∷ get_or front 2 0 ∷ (drop 3 front ++ more)
front_of_three [] more h = absurd (omega arith)
front_of_three (a ∷ []) more h = absurd (omega arith)
front_of_three (a ∷ b ∷ []) more h = absurd (omega arith)
front_of_three (a ∷ b ∷ c ∷ front) more h = refl

pub front_of_four : (front more : List ℕ) → 4 ≤ length front → front ++ more ≡ get_or front 0 0 ∷ get_or front 1 0 ∷ get_or front 2 0 ∷ get_or front 3 0 ∷ (drop 4 front ++ more)
front_of_four [] more h = absurd (omega arith)
front_of_four (a ∷ []) more h = absurd (omega arith)
front_of_four (a ∷ b ∷ []) more h = absurd (omega arith)
front_of_four (a ∷ b ∷ c ∷ []) more h = absurd (omega arith)
front_of_four (a ∷ b ∷ c ∷ d ∷ front) more h = refl

pub only_one : (front : List ℕ) → 1 ≤ length front → length front < 2 → front ≡ get_or front 0 0 ∷ []
only_one [] h l = absurd (omega arith)
only_one (a ∷ []) h l = refl
only_one (a ∷ b ∷ front) h l = absurd (omega arith)

pub only_two : (front : List ℕ) → 2 ≤ length front → length front < 3 → front ≡ get_or front 0 0 ∷ get_or front 1 0 ∷ []
only_two [] h l = absurd (omega arith)
only_two (a ∷ []) h l = absurd (omega arith)
only_two (a ∷ b ∷ []) h l = refl
only_two (a ∷ b ∷ c ∷ front) h l = absurd (omega arith)

pub only_three : (front : List ℕ) → 3 ≤ length front → length front < 4 → front ≡ get_or front 0 0 ∷ get_or front 1 0 ∷ get_or front 2 0 ∷ []
only_three [] h l = absurd (omega arith)
only_three (a ∷ []) h l = absurd (omega arith)
only_three (a ∷ b ∷ []) h l = absurd (omega arith)
only_three (a ∷ b ∷ c ∷ []) h l = refl
only_three (a ∷ b ∷ c ∷ d ∷ front) h l = absurd (omega arith)

-- one byte that may follow, and two
pub one_byte : (a : ℕ) → a < 256 → AreBytes (a ∷ [])
one_byte a h = All-cons (λ b. b < 256) a [] h (All-nil (λ b. b < 256))

pub two_bytes : (a b : ℕ) → a < 256 → b < 256 → AreBytes (a ∷ b ∷ [])
two_bytes a b h k = All-cons (λ b. b < 256) a (b ∷ []) h (one_byte b k)

-- the unit has another length with some bytes behind it than at the end
pub undecided_by : (unit : Code) (mode : Mode) (front other : List ℕ) (m n : ℕ) → AreBytes other → (unit mode front).len ≡ m → (unit mode (front ++ other)).len ≡ n → (m ≡ n → ⊥)
    → IsUndecided unit mode front
undecided_by unit mode front other m n are short long differ = record {
  one = [];
  other = other;
  one_bytes = All-nil (λ b. b < 256);
  other_bytes = are;
  differ = λ same. differ (sym (ap (λ rest. (unit mode rest).len) (append-nil front) ∙ short) ∙ (ap (λ u. u.len) same ∙ long));
}
