-- The least place of a scalar in ranges, by the rows in their order.
use Rattle.std.proofs.Common.{◌≡◌, ℕ, ◌+◌, ◌-◌, ◌<◌, ◌≤◌, min, zero, suc, Bool, true, false, List}
use Rattle.std.proofs.Common.{[], ◌∷◌, length, drop, Option, Some, None, refl, sym, ◌∙◌, ap, arith}
use Rattle.std.proofs.Common.{⊎_elim, if◌then◌else◌}
use Rattle.std.specs.Prelude.{nat_le, nat_lt, ◌==◌, slice_index_or}
use Rattle.std.specs.List.Sorted.{IsNonDecreasingBy}
use Rattle.std.proofs.lemmas.Bool.{cases_eq, cases_lt, eqb-true, ltb-false, ltb-true}
use Rattle.std.proofs.lemmas.Bool.Decides.{nat_tests}
use Rattle.enc_drivers.specs.Lookup.{holds, least_place}
use Rattle.enc_drivers.specs.Lemmas.LeastPlace.{holds_it, least_none, least_some}
use Rattle.enc_front.specs.LeastRow.{IsPlaceIn, IsLeastByRows, NoneBefore, under, with_7457}
use Rattle.enc_front.specs.Ranges.{is_outside, range_places, row_of}
use Rattle.enc_front.specs.Tables.{run_end}
use Rattle.enc_front.proofs.IndexLemmas.{none_fits, number_at, no_number_at, outside_at}
use Rattle.enc_front.proofs.IndexLemmas.{place_7457_at, row_at}
use Rattle.enc_front.proofs.RowLemmas.{end_none}

-- places that get another number, or none
other_number : (rows : List (ℕ × ℕ)) (scalar place number : ℕ)
    → range_places rows place ≡ Some number → (number ≡ scalar → ⊥)
    → holds (range_places rows) scalar place ≡ false
other_number rows scalar place number is other = let test : (number == scalar)
    ≡ false = grind (arith, nat_tests) in rw is test

nothing_at : (rows : List (ℕ × ℕ)) (scalar place : ℕ) → range_places rows place ≡ None
    → holds (range_places rows) scalar place ≡ false
nothing_at rows scalar place is = rw is refl

outside_none : (rows : List (ℕ × ℕ)) (scalar place : ℕ) → is_outside place ≡ true
    → holds (range_places rows) scalar place ≡ false
outside_none rows scalar place outside =
    nothing_at rows scalar place (outside_at rows place outside)

no_row_none : (rows : List (ℕ × ℕ)) (scalar place : ℕ) → (place == 7457) ≡ false
    → row_of rows place ≡ None → holds (range_places rows) scalar place ≡ false
no_row_none rows scalar place other is = by_test (is_outside place) refl
  where
    by_test : (t : Bool) → is_outside place ≡ t → holds (range_places rows) scalar place ≡ false
    by_test true e = outside_none rows scalar place e
    by_test false e = nothing_at rows scalar place (no_number_at rows place e other is)

-- in front of the first row
pub first_none : (rows : List (ℕ × ℕ)) (scalar : ℕ)
    → IsNonDecreasingBy (λ (row : ℕ × ℕ). row.0) rows → NoneBefore rows scalar (run_end rows)
first_none [] scalar sorted place below other = no_row_none [] scalar place other refl
first_none (row ∷ rows) scalar sorted place below other =
    no_row_none (row ∷ rows) scalar place other
    (none_fits (row ∷ rows) place
    (λ k d within. let up = sorted 0 k d (omega arith) within in grind (arith, nat_tests)))

-- a place in the run of the row at i has that row
in_run : (rows : List (ℕ × ℕ)) (i place : ℕ) (d : ℕ × ℕ)
    → IsNonDecreasingBy (λ (row : ℕ × ℕ). row.0) rows → i < length rows
    → (slice_index_or rows i d).0 ≤ place
    → place < run_end (drop (i + 1) rows) → row_of rows place ≡ Some (slice_index_or rows i d)
in_run rows i place d sorted within above below =
    let fits : nat_le (slice_index_or rows i d).0 place ≡ true = grind (arith, nat_tests) in
    row_at rows i place d within fits after
  where
    after : (k : ℕ) (e : ℕ × ℕ) → i < k → k < length rows
        → nat_le (slice_index_or rows k e).0 place ≡ false
    after k e behind in_rows =
        let next = slice_index_or rows (i + 1) e in
        let end : next.0 ≡ run_end (drop (i + 1) rows) = next_end rows (i + 1) e (omega arith) in
        let up = sorted (i + 1) k e (omega arith) in_rows in
        let high : place < (slice_index_or rows k e).0 = omega (arith, end, up, below) in
        grind (arith, nat_tests)
      where
        next_end : (rows : List (ℕ × ℕ)) (i : ℕ) (e : ℕ × ℕ) → i < length rows
            → (slice_index_or rows i e).0 ≡ run_end (drop i rows)
        next_end [] i e h = absurd (omega arith)
        next_end (row ∷ rows) zero e h = refl
        next_end (row ∷ rows) (suc i) e h = next_end rows i e (omega arith)

pub starts_at : (rows : List (ℕ × ℕ)) (i : ℕ) (d : ℕ × ℕ) → i < length rows
    → run_end (drop i rows) ≡ (slice_index_or rows i d).0
starts_at [] i d h = absurd (omega arith)
starts_at (row ∷ rows) zero d h = refl
starts_at (row ∷ rows) (suc i) d h = starts_at rows i d (omega arith)

-- the places in front of a run and in it
pub row_none : (rows : List (ℕ × ℕ)) (scalar i : ℕ) (d : ℕ × ℕ)
    → IsNonDecreasingBy (λ (row : ℕ × ℕ). row.0) rows → i < length rows
    → NoneBefore rows scalar (run_end (drop i rows))
    → IsPlaceIn (slice_index_or rows i d) (run_end (drop (i + 1) rows)) scalar None
    → NoneBefore rows scalar (run_end (drop (i + 1) rows))
row_none rows scalar i d sorted within before none place below other =
    ⊎_elim {C = holds (range_places rows) scalar place ≡ false}
    (λ front. before place (omega (arith, starts_at rows i d within, front)) other)
    (λ behind. by_test (is_outside place) refl behind)
    (cases_lt place (slice_index_or rows i d).0)
  where
    by_test : (t : Bool) → is_outside place ≡ t → (slice_index_or rows i d).0 ≤ place
        → holds (range_places rows) scalar place ≡ false
    by_test true e behind = outside_none rows scalar place e
    by_test false e behind =
        let row = slice_index_or rows i d in
        let number = number_at rows place row e other
        (in_run rows i place d sorted within behind below) in
        other_number rows scalar place (row.1 + (place - row.0)) number
        (none place behind below e other)

pub row_some : (rows : List (ℕ × ℕ)) (scalar i : ℕ) (d : ℕ × ℕ) (place : ℕ)
    → IsNonDecreasingBy (λ (row : ℕ × ℕ). row.0) rows → i < length rows
    → NoneBefore rows scalar (run_end (drop i rows))
    → IsPlaceIn (slice_index_or rows i d) (run_end (drop (i + 1) rows)) scalar (Some place)
    → IsLeastByRows rows scalar (Some place)
row_some rows scalar i d place sorted within before is =
    let row = slice_index_or rows i d in
    let number = number_at rows place row is.inside is.other
    (in_run rows i place d sorted within is.behind is.below) in
    (holds_it (range_places rows) scalar place (number ∙ ap Some is.number), earlier)
  where
    earlier : NoneBefore rows scalar place
    earlier q less other =
        ⊎_elim {C = holds (range_places rows) scalar q ≡ false}
        (λ front. before q (omega (arith, starts_at rows i d within, front)) other)
        (λ behind. by_test (is_outside q) refl behind)
        (cases_lt q (slice_index_or rows i d).0)
      where
        by_test : (t : Bool) → is_outside q ≡ t → (slice_index_or rows i d).0 ≤ q
            → holds (range_places rows) scalar q ≡ false
        by_test true e behind = outside_none rows scalar q e
        by_test false e behind =
            let row = slice_index_or rows i d in
            let number = number_at rows q row e other
            (in_run rows i q d sorted within behind (omega (arith, is.below, less))) in
            other_number rows scalar q (row.1 + (q - row.0)) number
            (λ same. omega (arith, same, is.number, is.behind, behind, less))

pub all_none : (rows : List (ℕ × ℕ)) (scalar i : ℕ) → length rows ≤ i
    → NoneBefore rows scalar (run_end (drop i rows)) → IsLeastByRows rows scalar None
all_none rows scalar i past before place below other =
    before place (omega (arith, end_none rows i past, below)) other

-- the place by the row alone
pub below_row : (row : ℕ × ℕ) (end scalar : ℕ) → scalar < row.1 → IsPlaceIn row end scalar None
below_row row end scalar low place behind below inside other same = omega arith

pub past_run : (row : ℕ × ℕ) (end scalar : ℕ) → row.1 ≤ scalar → end - row.0 ≤ scalar - row.1
    → IsPlaceIn row end scalar None
past_run row end scalar high past place behind below inside other same = omega arith

pub left_out : (row : ℕ × ℕ) (end scalar at : ℕ) → row.1 ≤ scalar → at ≡ row.0 + (scalar - row.1)
    → is_outside at ≡ true → IsPlaceIn row end scalar None
left_out row end scalar at high is outside place behind below inside other same =
    let here : place ≡ at = omega arith in
    let out : is_outside place ≡ true = ap is_outside here ∙ outside in
    cc

pub is_7457 : (row : ℕ × ℕ) (end scalar at : ℕ) → row.1 ≤ scalar → at ≡ row.0 + (scalar - row.1)
    → at ≡ 7457 → IsPlaceIn row end scalar None
is_7457 row end scalar at high is special place behind below inside other same =
    let here : (place == 7457) ≡ true = grind (arith, nat_tests) in
    cc

-- the least place of all, with place 7457
at_least : (rows : List (ℕ × ℕ)) (scalar below place : ℕ)
    → holds (range_places rows) scalar place ≡ true
    → ((q : ℕ) → q < place → holds (range_places rows) scalar q ≡ false)
    → under (Some place) below ≡ least_place (range_places rows) scalar below
at_least rows scalar below place here before = by_test (nat_lt place below) refl
  where
    by_test : (t : Bool) → nat_lt place below ≡ t
        → (if t then Some place else None) ≡ least_place (range_places rows) scalar below
    by_test true h = sym
        (least_some (range_places rows) scalar below place (ltb-true place below h) here before)
    by_test false h = let over = ltb-false place below h in
        sym (least_none (range_places rows) scalar below
        (λ q less. before q (omega (arith, over, less))))

but_7457 : (rows : List (ℕ × ℕ)) (scalar place end : ℕ) → NoneBefore rows scalar end
    → (7457 < end → holds (range_places rows) scalar 7457 ≡ false) → place < end
    → holds (range_places rows) scalar place ≡ false
but_7457 rows scalar place end before special below =
    ⊎_elim {C = holds (range_places rows) scalar place ≡ false}
    (λ e. let at : 7457 < end = omega arith in ap (holds (range_places rows) scalar) e ∙ special at)
    (λ ne. let other : (place == 7457)
    ≡ false = grind (arith, nat_tests) in before place below other)
    (cases_eq place 7457)

far_none : (rows : List (ℕ × ℕ)) (scalar place : ℕ) → 1237576 ≤ place
    → holds (range_places rows) scalar place ≡ false
far_none rows scalar place far = let outside : is_outside place
    ≡ true = grind (arith, nat_tests) in outside_none rows scalar place outside

none_at_all : (rows : List (ℕ × ℕ)) (scalar below : ℕ) → NoneBefore rows scalar 1237576
    → holds (range_places rows) scalar 7457 ≡ false
    → None ≡ least_place (range_places rows) scalar below
none_at_all rows scalar below before special =
    sym (least_none (range_places rows) scalar below (λ place less.
    ⊎_elim {C = holds (range_places rows) scalar place ≡ false}
    (λ near. but_7457 rows scalar place 1237576 before (λ h. special) near)
    (λ far. far_none rows scalar place far)
    (cases_lt place 1237576)))

pub least_in_ranges : (rows : List (ℕ × ℕ)) (scalar below : ℕ) (by_rows : Option ℕ)
    → IsLeastByRows rows scalar by_rows
    → under (with_7457 by_rows scalar) below ≡ least_place (range_places rows) scalar below
least_in_ranges rows scalar below by_rows least = by_test (scalar == 0xE7C7) refl by_rows least
  where
    special : (t : Bool) → (scalar == 0xE7C7) ≡ t → holds (range_places rows) scalar 7457 ≡ t
    special true e = holds_it (range_places rows) scalar 7457 (place_7457_at rows 7457 refl
        ∙ ap Some (sym (eqb-true scalar 0xE7C7 e)))
    special false e = other_number rows scalar 7457 0xE7C7 (place_7457_at rows 7457 refl)
        (λ same. let test : (scalar == 0xE7C7) ≡ true = grind (arith, nat_tests) in cc)

    by_order : (place : ℕ) (t : Bool) → nat_lt place 7457 ≡ t
        → holds (range_places rows) scalar 7457 ≡ true → IsLeastByRows rows scalar (Some place)
        → under (Some (min place 7457)) below ≡ least_place (range_places rows) scalar below
    by_order place true h there least =
        let low = ltb-true place 7457 h in
        let least_is : min place 7457 ≡ place = omega (arith, low) in
        rw least_is (at_least rows scalar below place least.0
        (λ q less. but_7457 rows scalar q place least.1 (λ k. absurd (omega (arith, low, k)))
        less))
    by_order place false h there least =
        let high = ltb-false place 7457 h in
        let least_is : min place 7457 ≡ 7457 = omega (arith, high) in
        rw least_is (at_least rows scalar below 7457 there
        (λ q less. but_7457 rows scalar q 7457
        (λ p k other. least.1 p (omega (arith, high, k)) other)
        (λ k. absurd (omega arith)) less))

    by_test : (t : Bool) → (scalar == 0xE7C7) ≡ t → (by_rows : Option ℕ)
        → IsLeastByRows rows scalar by_rows
        → under (with_7457 by_rows scalar) below ≡ least_place (range_places rows) scalar below
    by_test true e (Some place) least =
        rw e (by_order place (nat_lt place 7457) refl (special true e) least)
    by_test true e None least =
        rw e (at_least rows scalar below 7457 (special true e)
        (λ q less. but_7457 rows scalar q 7457 (λ p k other. least p (omega arith) other)
        (λ k. absurd (omega arith)) less))
    by_test false e (Some place) least =
        rw e (at_least rows scalar below place least.0
        (λ q less. but_7457 rows scalar q place least.1 (λ k. special false e) less))
    by_test false e None least = rw e (none_at_all rows scalar below least (special false e))
