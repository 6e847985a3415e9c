-- Rows of ranges without a fault: they are in order, and each place that they map has a scalar.
use Rattle.std.proofs.Common.{◌≡◌, ℕ, ◌+◌, ◌-◌, ◌<◌, ◌≤◌, zero, suc, Bool, true, false, not, List}
use Rattle.std.proofs.Common.{[], ◌∷◌, ◌++◌, length, Option, Some, None, refl, sym, ◌∙◌, ap, subst}
use Rattle.std.proofs.Common.{arith, if◌then◌else◌}
use Rattle.std.specs.Prelude.{nat_le, nat_lt, ◌==◌, slice_index_or}
use Rattle.std.specs.Char.{IsScalar}
use Rattle.std.specs.List.Sorted.{IsNonDecreasingBy}
use Rattle.std.specs.Option.{option_map, option_or}
use Rattle.std.proofs.lemmas.Bool.{leb-true, leb-false, ltb-true}
use Rattle.std.proofs.lemmas.List.{append-nil, append_assoc}
use Rattle.std.proofs.lemmas.List.Sorted.{IsNonDecreasingBy-push, IsNonDecreasingBy-short}
use Rattle.enc_drivers.specs.Lookup.{FindsScalars}
use Rattle.enc_front.specs.declared.tables.IndexKind.TheVariants.{Gb18030Ranges}
use Rattle.enc_front.specs.declared.tables.Why.TheVariants as why
use Rattle.enc_front.specs.Kinds.{place_count}
use Rattle.enc_front.specs.Ranges.{row_of, is_outside, range_places}
use Rattle.enc_front.specs.Scalars.{is_scalar}
use Rattle.enc_front.specs.Tables.{fault_behind, follows, last_place, row_fault, row_why, run_end}
use Rattle.enc_front.specs.Tables.{run_fails}
use Rattle.enc_front.proofs.RowLemmas.{five_none, not_false, none_parts}
use Rattle.enc_front.proofs.RunLemmas.{run_scalar, inside_below}

-- what a row without a fault passes
record PassesRange (before : List (ℕ × ℕ)) (row : ℕ × ℕ) (after : List (ℕ × ℕ)) : Type 0 where
  next : follows (last_place before) row.0 ≡ true
  runs : run_fails row (run_end after) ≡ false

passes_range : (before : List (ℕ × ℕ)) (row : ℕ × ℕ) (after : List (ℕ × ℕ))
    → row_why Gb18030Ranges before row after ≡ None → PassesRange before row after
passes_range before row after h =
    let tests = five_none (nat_le (place_count Gb18030Ranges) row.0)
    (not (follows (last_place before) row.0)) (nat_lt row.1 0x80) (not (is_scalar row.1))
    (run_fails row (run_end after))
    why.Place why.Order why.Ascii why.NotScalar why.Run h in
    record { next = not_false (follows (last_place before) row.0) tests.1; runs = tests.4 }

last_is : (rows : List (ℕ × ℕ)) (i : ℕ) (d : ℕ × ℕ) → length rows ≡ suc i
    → last_place rows ≡ Some (slice_index_or rows i d).0
last_is [] i d h = absurd (omega arith)
last_is (row ∷ []) zero d h = refl
last_is (row ∷ []) (suc i) d h = absurd (omega arith)
last_is (row ∷ next ∷ rows) zero d h = absurd (omega arith)
last_is (row ∷ next ∷ rows) (suc i) d h = rw (last_is (next ∷ rows) i d (omega arith)) refl

above_last : (before : List (ℕ × ℕ)) (place : ℕ) → follows (last_place before) place ≡ true
    → (d : ℕ × ℕ) → 0 < length before → (slice_index_or before (length before - 1) d).0 ≤ place
above_last before place h d some =
    let last : last_place before ≡ Some (slice_index_or before (length before - 1) d).0 =
    last_is before (length before - 1) d (omega arith) in
    let test : nat_lt (slice_index_or before (length before - 1) d).0 place
    ≡ true = sym (ap (λ l. follows l place) last) ∙ h in
    let below = ltb-true (slice_index_or before (length before - 1) d).0 place test in
    omega arith

sorted_behind : (before rows : List (ℕ × ℕ)) → fault_behind Gb18030Ranges before rows ≡ None
    → IsNonDecreasingBy (λ (row : ℕ × ℕ). row.0) before
    → IsNonDecreasingBy (λ (row : ℕ × ℕ). row.0) (before ++ rows)
sorted_behind before [] none sorted =
    let Sorted : List (ℕ × ℕ) → Type 0 = λ rows. IsNonDecreasingBy (λ (row : ℕ × ℕ). row.0) rows in
    subst Sorted (sym (append-nil before)) sorted
sorted_behind before (row ∷ rows) none sorted =
    let Sorted : List (ℕ × ℕ) → Type 0 = λ rows. IsNonDecreasingBy (λ (row : ℕ × ℕ). row.0) rows in
    let parts = none_parts Gb18030Ranges before row rows none in
    let next = (passes_range before row rows parts.0).next in
    let more = IsNonDecreasingBy-push (λ (row : ℕ × ℕ). row.0) before row sorted
    (above_last before row.0 next) in
    subst Sorted (append_assoc before (row ∷ []) rows)
    (sorted_behind (before ++ row ∷ []) rows parts.1 more)

pub ranges_sorted : (rows : List (ℕ × ℕ)) → row_fault Gb18030Ranges rows ≡ None
    → IsNonDecreasingBy (λ (row : ℕ × ℕ). row.0) rows
ranges_sorted rows none =
    sorted_behind [] rows none (IsNonDecreasingBy-short (λ (row : ℕ × ℕ). row.0) [] (omega arith))

-- a place in the run of a row is below the next row's, where no row behind it has a place up to it
below_end : (after : List (ℕ × ℕ)) (place : ℕ) → row_of after place ≡ None → place < 1237576
    → place < run_end after
below_end [] place none below = below
below_end (next ∷ rows) place none below = by_rest (row_of rows place) none
  where
    by_test : (t : Bool) → nat_le next.0 place ≡ t → (if t then Some next else None) ≡ None
        → place < next.0
    by_test true e k = cc
    by_test false e k = leb-false next.0 place e

    by_rest : (o : Option (ℕ × ℕ)) → option_or o (if nat_le next.0 place then Some next else None)
        ≡ None → place < next.0
    by_rest (Some x) h = cc
    by_rest None h = by_test (nat_le next.0 place) refl h

fits_row : (row : ℕ × ℕ) (place : ℕ) (r : ℕ × ℕ) (test : Bool) → nat_le row.0 place ≡ test
    → (if test then Some row else None) ≡ Some r → (row ≡ r) × (row.0 ≤ place)
fits_row row place r true e h = (cc, leb-true row.0 place e)
fits_row row place r false e h = cc

sound_behind : (before rows : List (ℕ × ℕ)) → fault_behind Gb18030Ranges before rows ≡ None
    → (place : ℕ) (r : ℕ × ℕ) → row_of rows place ≡ Some r
    → is_outside place ≡ false → (place == 7457) ≡ false → place < 1237576
    → IsScalar (r.1 + (place - r.0))
sound_behind before [] none place r is inside other below = cc
sound_behind before (row ∷ rows) none place r is inside other below =
    let parts = none_parts Gb18030Ranges before row rows none in
    let runs = (passes_range before row rows parts.0).runs in
    by_rest (row_of rows place) refl
    (λ k. sound_behind (before ++ row ∷ []) rows parts.1 place r k inside other below) runs is
  where
    by_rest : (o : Option (ℕ × ℕ)) → row_of rows place ≡ o
        → (row_of rows place ≡ Some r → IsScalar (r.1 + (place - r.0)))
        → run_fails row (run_end rows) ≡ false
        → option_or o (if nat_le row.0 place then Some row else None) ≡ Some r
        → IsScalar (r.1 + (place - r.0))
    by_rest (Some x) e rest runs h = rest (e ∙ h)
    by_rest None e rest runs h =
        let fits = fits_row row place r (nat_le row.0 place) refl h in
        let scalar : is_scalar (row.1 + (place - row.0))
        ≡ true = run_scalar row (run_end rows) place runs fits.1
        (below_end rows place e below) inside other in
        subst (λ k. IsScalar (k.1 + (place - k.0))) fits.0 scalar

pub ranges_sound : (rows : List (ℕ × ℕ)) → row_fault Gb18030Ranges rows ≡ None
    → FindsScalars (range_places rows)
unfolding range_places
ranges_sound rows none place c e = by_outside (is_outside place) refl e
  where
    by_row : (o : Option (ℕ × ℕ)) → row_of rows place ≡ o → is_outside place ≡ false
        → (place == 7457) ≡ false → option_map (λ row. row.1 + (place - row.0)) o ≡ Some c
        → IsScalar c
    by_row None is inside other h = cc
    by_row (Some r) is inside other h =
        let same : r.1 + (place - r.0) ≡ c = cc in
        subst (λ k. IsScalar k) same
        (sound_behind [] rows none place r is inside other (inside_below place inside))

    by_7457 : (t : Bool) → (place == 7457) ≡ t → is_outside place ≡ false
        → (if t then Some 0xE7C7
        else option_map (λ row. row.1 + (place - row.0)) (row_of rows place)) ≡ Some c
        → IsScalar c
    by_7457 true other inside h = let same : 0xE7C7 ≡ c = cc in subst (λ k. IsScalar k) same refl
    by_7457 false other inside h = by_row (row_of rows place) refl inside other h

    by_outside : (t : Bool) → is_outside place ≡ t
        → (if t then None else (if place == 7457 then Some 0xE7C7
        else option_map (λ row. row.1 + (place - row.0)) (row_of rows place))) ≡ Some c
        → IsScalar c
    by_outside true outside h = cc
    by_outside false outside h = by_7457 (place == 7457) refl outside h
