-- The run of a row of ranges: its places between those that the ranges leave out.
use Rattle.std.proofs.Common.{◌≡◌, ℕ, ◌+◌, ◌-◌, ◌<◌, ◌≤◌, zero, suc, Bool, true, false, not, refl}
use Rattle.std.proofs.Common.{sym, ◌∙◌, ap, arith, ⊎_elim, inl, inr, ◌⊎◌, ◌&&◌, ◌||◌, min, max}
use Rattle.std.specs.Prelude.{nat_le, nat_lt, ◌==◌}
use Rattle.std.specs.List.{list_any, range_with_len}
use Rattle.std.proofs.lemmas.Bool.{cases_eq, cases_lt, ltb-false}
use Rattle.std.proofs.lemmas.Bool.Decides.{nat_tests}
use Rattle.enc_front.specs.Ranges.{is_outside, range_places}
use Rattle.enc_front.specs.Scalars.{is_scalar}
use Rattle.enc_front.specs.Tables.{NumbersAreScalars, SomeNumberFails, gets_no_scalar, run_fails}

-- a test of the numbers in a row
or_true : (b : Bool) → (b || true) ≡ true
or_true true = refl
or_true false = refl

any_number : (test : ℕ → Bool) (from n k : ℕ) → from ≤ k → k < from + n → test k ≡ true
    → list_any test (range_with_len from n) ≡ true
any_number test from zero k above below h = absurd (omega arith)
any_number test from (suc n) k above below h =
    ⊎_elim {C = (test from || list_any test (range_with_len (from + 1) n)) ≡ true}
    (λ e. let first : test from ≡ true = ap test e ∙ h in rw first refl)
    (λ ne. let rest : list_any test (range_with_len (from + 1) n)
    ≡ true = any_number test (from + 1) n k (omega arith) (omega arith) h in
    rw rest (or_true (test from)))
    (cases_eq from k)

no_number : (test : ℕ → Bool) (from n : ℕ) → ((k : ℕ) → from ≤ k → k < from + n → test k ≡ false)
    → list_any test (range_with_len from n) ≡ false
no_number test from zero h = refl
no_number test from (suc n) h =
    rw (h from (omega arith) (omega arith))
    (no_number test (from + 1) n (λ k above below. h k (omega arith) (omega arith)))

-- what a place gets from a row that isn't behind it
gets_is : (row : ℕ × ℕ) (place : ℕ) → row.0 ≤ place → is_outside place ≡ false
    → (place == 7457) ≡ false → gets_no_scalar row place ≡ not (is_scalar (row.1 + (place - row.0)))
unfolding range_places
gets_is row place behind inside other =
    let fits : nat_le row.0 place ≡ true = grind (arith, nat_tests) in
    rw (inside, other, fits) refl

outside_gets : (row : ℕ × ℕ) (place : ℕ) → is_outside place ≡ true
    → gets_no_scalar row place ≡ false
unfolding range_places
outside_gets row place outside = rw outside refl

place_7457_gets : (row : ℕ × ℕ) (place : ℕ) → place ≡ 7457 → gets_no_scalar row place ≡ false
unfolding range_places
place_7457_gets row place is = rw is refl

-- a part of the run
inside_test : (place : ℕ) → (place < 39420) ⊎ ((189000 ≤ place) × (place < 1237576))
    → is_outside place ≡ false
inside_test place (inl below) = grind (arith, nat_tests)
inside_test place (inr between) = let low : 189000 ≤ place = between.0 in
    let high : place < 1237576 = between.1 in grind (arith, nat_tests)

and_right : (x y : Bool) → (x && y) ≡ false → x ≡ true → y ≡ false
and_right true y h k = h
and_right false y h k = cc

or_both : (x y : Bool) → (x || y) ≡ false → (x ≡ false) × (y ≡ false)
or_both true y h = cc
or_both false y h = (refl, h)

pub inside_parts : (place : ℕ) → is_outside place ≡ false → 39420 ≤ place
    → (189000 ≤ place) × (place < 1237576)
inside_parts place h far =
    let both = or_both (nat_le 39420 place && nat_lt place 189000) (nat_lt 1237575 place) h in
    let test : nat_le 39420 place ≡ true = grind (arith, nat_tests) in (
      ltb-false place 189000 (and_right (nat_le 39420 place) (nat_lt place 189000) both.0 test),
      let top = ltb-false 1237575 place both.1 in omega arith,
    )

other_test : (place : ℕ) → (place ≡ 7457 → ⊥) → (place == 7457) ≡ false
other_test place ne = grind (arith, nat_tests)

-- one of its numbers fails
pub part_fails : (row : ℕ × ℕ) (low high end : ℕ) → SomeNumberFails row low high → high ≤ end
    → ((place : ℕ) → low ≤ place → place < high → (is_outside place ≡ false)
    × ((place == 7457) ≡ false)) → run_fails row end ≡ true
unfolding run_fails
part_fails row low high end part within inside =
    let at = inside part.place part.above part.below in
    any_number (gets_no_scalar row) row.0 (end - row.0) part.place part.behind
    (omega (arith, part.below, part.behind))
    (gets_is row part.place part.behind at.0 at.1 ∙ ap not part.fails)

pub fails_low : (row : ℕ × ℕ) (high end : ℕ) → high ≡ min end 7457 → SomeNumberFails row 0 high
    → run_fails row end ≡ true
fails_low row high end is part =
    part_fails row 0 high end part (omega arith)
    (λ place above below.
    (inside_test place (inl (omega arith)), other_test place (λ e. omega arith)))

pub fails_middle : (row : ℕ × ℕ) (high end : ℕ) → high ≡ min end 39420
    → SomeNumberFails row 7458 high → run_fails row end ≡ true
fails_middle row high end is part =
    part_fails row 7458 high end part (omega arith)
    (λ place above below.
    (inside_test place (inl (omega arith)), other_test place (λ e. omega arith)))

pub fails_high : (row : ℕ × ℕ) (high end : ℕ) → high ≡ min end 1237576
    → SomeNumberFails row 189000 high → run_fails row end ≡ true
fails_high row high end is part =
    part_fails row 189000 high end part (omega arith)
    (λ place above below.
    (inside_test place (inr (omega arith, omega arith)), other_test place (λ e. omega arith)))

-- none of their numbers fails
pub none_fails : (row : ℕ × ℕ) (low middle high end : ℕ) → low ≡ min end 7457
    → middle ≡ min end 39420 → high ≡ min end 1237576
    → NumbersAreScalars row 0 low → NumbersAreScalars row 7458 middle
    → NumbersAreScalars row 189000 high → run_fails row end ≡ false
unfolding run_fails
none_fails row low middle high end low_is middle_is high_is in_low in_middle in_high =
    no_number (gets_no_scalar row) row.0 (end - row.0)
    (λ place behind below. at place behind (omega arith))
  where
    low_one : (place : ℕ) → row.0 ≤ place → place < end → place < 7457
        → is_scalar (row.1 + (place - row.0)) ≡ true
    low_one place behind below h = in_low place behind (omega arith) (omega arith)

    middle_one : (place : ℕ) → row.0 ≤ place → place < end → 7457 < place → place < 39420
        → is_scalar (row.1 + (place - row.0)) ≡ true
    middle_one place behind below h k = in_middle place behind (omega arith) (omega arith)

    high_one : (place : ℕ) → row.0 ≤ place → place < end → 189000 ≤ place → place < 1237576
        → is_scalar (row.1 + (place - row.0)) ≡ true
    high_one place behind below h k = in_high place behind h (omega arith)

    inside : (place : ℕ) → row.0 ≤ place → place < end → is_outside place ≡ false
        → (place ≡ 7457 → ⊥) → is_scalar (row.1 + (place - row.0)) ≡ true
    inside place behind below h ne =
        ⊎_elim {C = is_scalar (row.1 + (place - row.0)) ≡ true}
        (λ low. low_one place behind below low)
        (λ above. ⊎_elim {C = is_scalar (row.1 + (place - row.0)) ≡ true}
        (λ middle. middle_one place behind below (omega arith) middle)
        (λ far. let high = inside_parts place h far in high_one place behind below high.0 high.1)
        (cases_lt place 39420))
        (cases_lt place 7457)

    by_outside : (place : ℕ) → row.0 ≤ place → place < end → (test : Bool) → is_outside place ≡ test
        → gets_no_scalar row place ≡ false
    by_outside place behind below true h = outside_gets row place h
    by_outside place behind below false h =
        ⊎_elim {C = gets_no_scalar row place ≡ false}
        (λ e. place_7457_gets row place e)
        (λ ne. gets_is row place behind h (other_test place ne)
        ∙ ap not (inside place behind below h ne))
        (cases_eq place 7457)

    at : (place : ℕ) → row.0 ≤ place → place < end → gets_no_scalar row place ≡ false
    at place behind below = by_outside place behind below (is_outside place) refl

pub last_part : (row : ℕ × ℕ) (low middle high end : ℕ) (r : Bool) → low ≡ min end 7457
    → middle ≡ min end 39420 → high ≡ min end 1237576
    → NumbersAreScalars row 0 low → NumbersAreScalars row 7458 middle
    → (r ≡ true → SomeNumberFails row 189000 high)
    → (r ≡ false → NumbersAreScalars row 189000 high)
    → r ≡ run_fails row end
last_part row low middle high end true low_is middle_is high_is in_low in_middle fails passes =
    sym (fails_high row high end high_is (fails refl))
last_part row low middle high end false low_is middle_is high_is in_low in_middle fails passes =
    sym (none_fails row low middle high end low_is middle_is high_is in_low in_middle (passes refl))

-- a number of the part that is a surrogate
surrogate : (c : ℕ) → 0xD800 ≤ c → c < 0xE000 → is_scalar c ≡ false
surrogate c low high = grind (arith, nat_tests)

pub surrogate_part : (row : ℕ × ℕ) (low high from : ℕ) → from ≡ max low row.0 → from < high
    → 0xD800 ≤ row.1 + (high - 1 - row.0) → row.1 + (from - row.0) < 0xE000
    → SomeNumberFails row low high
surrogate_part row low high from is some last first =
    ⊎_elim {C = SomeNumberFails row low high}
    (λ below.
    let place : ℕ = row.0 + (0xD800 - row.1) in
    let number : row.1 + (place - row.0) ≡ 0xD800 = omega arith in
    record {
      place = place;
      behind = omega arith;
      above = omega arith;
      below = omega arith;
      fails = surrogate (row.1 + (place - row.0)) (omega arith) (omega arith);
    })
    (λ above. record {
      place = from;
      behind = omega arith;
      above = omega arith;
      below = some;
      fails = surrogate (row.1 + (from - row.0)) above first;
    })
    (cases_lt (row.1 + (from - row.0)) 0xD800)

pub inside_below : (place : ℕ) → is_outside place ≡ false → place < 1237576
inside_below place h =
    let top = ltb-false 1237575 place
    (or_both (nat_le 39420 place && nat_lt place 189000) (nat_lt 1237575 place) h).1 in
    omega arith

-- a place of a run that doesn't fail has a scalar
pub run_scalar : (row : ℕ × ℕ) (end place : ℕ) → run_fails row end ≡ false → row.0 ≤ place
    → place < end → is_outside place ≡ false → (place == 7457) ≡ false
    → is_scalar (row.1 + (place - row.0)) ≡ true
unfolding run_fails
run_scalar row end place runs behind below inside other =
    by_test (is_scalar (row.1 + (place - row.0))) refl
  where
    by_test : (t : Bool) → is_scalar (row.1 + (place - row.0)) ≡ t
        → is_scalar (row.1 + (place - row.0)) ≡ true
    by_test true h = h
    by_test false h =
        let gets : gets_no_scalar row place ≡ true = gets_is row place behind inside other
        ∙ ap not h in
        let fails : list_any (gets_no_scalar row) (range_with_len row.0 (end - row.0))
        ≡ true = any_number (gets_no_scalar row) row.0 (end - row.0) place behind
        (omega arith) gets in
        cc
