-- The least place of a scalar, by what holds of it.
use Rattle.std.proofs.Common.{◌≡◌, ℕ, ◌+◌, ◌-◌, ◌<◌, ◌≤◌, zero, suc, Bool, true, false, Option}
use Rattle.std.proofs.Common.{Some, None, refl, ◌∙◌, ap, arith, ⊎_elim}
use Rattle.std.specs.Prelude.{find, ◌==◌}
use Rattle.std.specs.List.{range_with_len}
use Rattle.std.specs.Option.{option_eq, option_map_or}
use Rattle.std.proofs.lemmas.Bool.{cases_eq, eqb-true}
use Rattle.std.proofs.lemmas.Bool.Decides.{nat_tests}
use Rattle.enc_drivers.specs.Lookup.{Places, holds, least_place}

-- the first of some numbers in a row that passes a test
found_at : (test : ℕ → Bool) (from n p : ℕ) → from ≤ p → p < from + n → test p ≡ true → ((q : ℕ) → from ≤ q → q < p → test q ≡ false) → find test (range_with_len from n) ≡ Some p
found_at test from zero p above below here before = absurd (omega arith)
found_at test from (suc n) p above below here before =
    ⊎_elim {C = find test (range_with_len from (suc n)) ≡ Some p}
    (λ e. let first : test from ≡ true = ap test e ∙ here in rw first (ap Some e))
    (λ ne. let first : test from ≡ false = before from (omega arith) (omega arith) in
    rw first (found_at test (from + 1) n p (omega arith) (omega arith) here (λ q k l. before q (omega arith) l)))
    (cases_eq from p)

found_nowhere : (test : ℕ → Bool) (from n : ℕ) → ((q : ℕ) → from ≤ q → q < from + n → test q ≡ false) → find test (range_with_len from n) ≡ None
found_nowhere test from zero none = refl
found_nowhere test from (suc n) none =
    let first : test from ≡ false = none from (omega arith) (omega arith) in
    rw first (found_nowhere test (from + 1) n (λ q k l. none q (omega arith) (omega arith)))

-- a place that holds the scalar, and one that doesn't
pub holds_it : (places : Places) (scalar place : ℕ) → places place ≡ Some scalar → holds places scalar place ≡ true
holds_it places scalar place h = let same : (scalar == scalar) ≡ true = grind (arith, nat_tests) in rw h same

pub held : (places : Places) (scalar place : ℕ) → holds places scalar place ≡ true → places place ≡ Some scalar
held places scalar place h = by_found (places place) refl h
  where
    by_found : (o : Option ℕ) → places place ≡ o → holds places scalar place ≡ true → places place ≡ Some scalar
    by_found None e k = cc
    by_found (Some c) e k = let test : (c == scalar) ≡ true = rw e at k in e ∙ ap Some (eqb-true c scalar test)

-- the least place, and none, by the test
pub least_some : (places : Places) (scalar below p : ℕ) → p < below → holds places scalar p ≡ true → ((q : ℕ) → q < p → holds places scalar q ≡ false) → least_place places scalar below ≡ Some p
unfolding least_place
least_some places scalar below p within here before = found_at (holds places scalar) 0 below p (omega arith) (omega arith) here (λ q k l. before q l)

pub least_none : (places : Places) (scalar below : ℕ) → ((q : ℕ) → q < below → holds places scalar q ≡ false) → least_place places scalar below ≡ None
unfolding least_place
least_none places scalar below none = found_nowhere (holds places scalar) 0 below (λ q k l. none q (omega arith))

-- a comparison with the scalar, and the places from the next one on
pub equals_is : (o : Option ℕ) (scalar : ℕ) → option_eq (λ x y. x == y) o (Some scalar) ≡ option_map_or (λ c. c == scalar) o false
equals_is None scalar = refl
equals_is (Some c) scalar = refl

pub from_first : (places : Places) (scalar below : ℕ) → find (holds places scalar) (range_with_len 0 (below - 0)) ≡ least_place places scalar below
unfolding least_place
from_first places scalar below =
    let all : below - 0 ≡ below = omega arith in
    ap (λ n. find (holds places scalar) (range_with_len 0 n)) all

pub from_next : (test : ℕ → Bool) (place below : ℕ) → place < below → test place ≡ false
    → find test (range_with_len (place + 1) (below - (place + 1))) ≡ find test (range_with_len place (below - place))
from_next test place below within other =
    let some : below - place ≡ suc (below - (place + 1)) = omega arith in
    rw (some, other) refl
