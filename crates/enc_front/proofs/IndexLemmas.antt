-- The cells of a flat index, and the row of ranges that a place has.
use Rattle.std.proofs.Common.{◌≡◌, ◌≢◌, ℕ, ◌+◌, ◌-◌, ◌<◌, ◌≤◌, zero, suc, Bool, true, false, List}
use Rattle.std.proofs.Common.{[], ◌∷◌, length, Option, Some, None, refl, sym, ◌∙◌, ap, subst, arith}
use Rattle.std.proofs.Common.{if◌then◌else◌, ⊎_elim}
use Rattle.std.specs.Prelude.{slice_get, slice_set, slice_index_or, nat_le, ◌==◌, replicate}
use Rattle.std.specs.Char.{IsScalar}
use Rattle.std.specs.Option.{SomeIff, option_and_then}
use Rattle.std.specs.List.Sorted.{IsPartitionPoint}
use Rattle.std.proofs.lemmas.Bool.{cases_eq, leb-true}
use Rattle.std.proofs.lemmas.Option.{slice_get_past, slice_get_read}
use Rattle.std.proofs.lemmas.Bool.Decides.{nat_tests}
use Rattle.enc_drivers.specs.Lookup.{FindsScalars}
use Rattle.enc_front.specs.Cells.{scalar_in, cell_places}
use Rattle.enc_front.specs.Ranges.{row_of, is_outside, range_places}
use Rattle.enc_front.specs.Scalars.{is_scalar}

-- a cell that is put
get_set_same : (cells : List ℕ) (i a : ℕ) → i < length cells
    → slice_get (slice_set cells i a) i ≡ Some a
get_set_same [] i a h = absurd (omega arith)
get_set_same (x ∷ cells) zero a h = refl
get_set_same (x ∷ cells) (suc i) a h = get_set_same cells i a (omega arith)

get_set_other : (cells : List ℕ) (i j a : ℕ) → i ≢ j
    → slice_get (slice_set cells i a) j ≡ slice_get cells j
get_set_other [] i j a ne = refl
get_set_other (x ∷ cells) zero zero a ne = absurd (ne refl)
get_set_other (x ∷ cells) zero (suc j) a ne = refl
get_set_other (x ∷ cells) (suc i) zero a ne = refl
get_set_other (x ∷ cells) (suc i) (suc j) a ne = get_set_other cells i j a (λ e. ne (ap suc e))

pub scalar_in-is : (c : ℕ) → is_scalar c ≡ true → scalar_in c ≡ Some c
scalar_in-is c h = rw h refl

pub put_at : (cells : List ℕ) (i a j : ℕ) → i < length cells → is_scalar a ≡ true
    → cell_places (slice_set cells i a) j ≡ (if i == j then Some a else cell_places cells j)
unfolding cell_places
put_at cells i a j within scalar = ⊎_elim same other (cases_eq i j)
  where
    same : i ≡ j → option_and_then scalar_in (slice_get (slice_set cells i a) j)
        ≡ (if i == j then Some a else option_and_then scalar_in (slice_get cells j))
    same e =
        let test : (i == j) ≡ true = grind (arith, nat_tests) in
        let got : slice_get (slice_set cells i a) j
        ≡ Some a = subst (λ k. slice_get (slice_set cells i a) k ≡ Some a) e
        (get_set_same cells i a within) in
        rw (test, got) (scalar_in-is a scalar)

    other : (i ≡ j → ⊥) → option_and_then scalar_in (slice_get (slice_set cells i a) j)
        ≡ (if i == j then Some a else option_and_then scalar_in (slice_get cells j))
    other ne =
        let test : (i == j) ≡ false = grind (arith, nat_tests) in
        rw (test, get_set_other cells i j a ne) refl

-- cells without a scalar
pub none_at : (n cell j : ℕ) → is_scalar cell ≡ false → cell_places (replicate n cell) j ≡ None
unfolding cell_places
none_at zero cell j h = refl
none_at (suc n) cell zero h = rw h refl
none_at (suc n) cell (suc j) h = none_at n cell j h

-- what `char::from_u32` gives
pub from_number : (o : Option ℕ) (c : ℕ) → SomeIff o (IsScalar c) c → o ≡ scalar_in c
from_number None c h = sym (none_if (is_scalar c) refl)
  where
    none_if : (test : Bool) → is_scalar c ≡ test → (if test then Some c else None) ≡ None
    none_if true e = absurd (h e)
    none_if false e = refl
from_number (Some x) c h = ap Some h.1 ∙ sym (scalar_in-is c h.0)

pub cell_at : (cells : List ℕ) (place cell : ℕ) (o : Option ℕ) → place < length cells
    → cell ≡ slice_index_or cells place cell
    → SomeIff o (IsScalar cell) cell → o ≡ cell_places cells place
unfolding cell_places
cell_at cells place cell o within is h =
    let got : slice_get cells place
    ≡ Some cell = slice_get_read cells (length cells) place cell refl within is in
    from_number o cell h ∙ sym (ap (λ x. option_and_then scalar_in x) got)

pub no_cell_at : (cells : List ℕ) (place : ℕ) → length cells ≤ place
    → cell_places cells place ≡ None
unfolding cell_places
no_cell_at cells place past = ap (λ x. option_and_then scalar_in x)
    (slice_get_past cells place past)

-- the row of a place, where the rows up to the i-th have places up to it and those behind it have
-- not
pub none_fits : (rows : List (ℕ × ℕ)) (place : ℕ)
    → ((k : ℕ) (d : ℕ × ℕ) → k < length rows → nat_le (slice_index_or rows k d).0 place ≡ false)
    → row_of rows place ≡ None
none_fits [] place h = refl
none_fits (row ∷ rows) place h =
    let head : nat_le row.0 place ≡ false = h 0 row (omega arith) in
    rw (none_fits rows place (λ k d within. h (suc k) d (omega arith)), head) refl

pub row_at : (rows : List (ℕ × ℕ)) (i place : ℕ) (d : ℕ × ℕ) → i < length rows
    → nat_le (slice_index_or rows i d).0 place ≡ true
    → ((k : ℕ) (e : ℕ × ℕ) → i < k → k < length rows
    → nat_le (slice_index_or rows k e).0 place ≡ false)
    → row_of rows place ≡ Some (slice_index_or rows i d)
row_at [] i place d within h after = absurd (omega arith)
row_at (row ∷ rows) zero place d within h after =
    rw (none_fits rows place (λ k e inside. after (suc k) e (omega arith) (omega arith)), h) refl
row_at (row ∷ rows) (suc i) place d within h after =
    rw (row_at rows i place d (omega arith) h
    (λ k e above inside. after (suc k) e (omega arith) (omega arith))) refl

-- the number that the row gives
pub number_at : (rows : List (ℕ × ℕ)) (place : ℕ) (row : ℕ × ℕ) → is_outside place ≡ false
    → (place == 7457) ≡ false → row_of rows place ≡ Some row
    → range_places rows place ≡ Some (row.1 + (place - row.0))
unfolding range_places
number_at rows place row inside other is = rw (inside, other, is) refl

pub no_number_at : (rows : List (ℕ × ℕ)) (place : ℕ) → is_outside place ≡ false
    → (place == 7457) ≡ false → row_of rows place ≡ None → range_places rows place ≡ None
unfolding range_places
no_number_at rows place inside other is = rw (inside, other, is) refl

pub outside_at : (rows : List (ℕ × ℕ)) (place : ℕ) → is_outside place ≡ true
    → range_places rows place ≡ None
unfolding range_places
outside_at rows place outside = rw outside refl

pub place_7457_at : (rows : List (ℕ × ℕ)) (place : ℕ) → place ≡ 7457
    → range_places rows place ≡ Some 0xE7C7
unfolding range_places
place_7457_at rows place is = rw is refl

-- `char::from_u32` of a number that is a scalar
pub from_scalar : (o : Option ℕ) (c : ℕ) → SomeIff o (IsScalar c) c → IsScalar c → o ≡ Some c
from_scalar None c h scalar = absurd (h scalar)
from_scalar (Some x) c h scalar = ap Some h.1

-- the scalar of a place by the row in front of the rows' partition point
pub record ByRow (rows : List (ℕ × ℕ)) (place : ℕ) (row : ℕ × ℕ) : Type 0 where
  pub fits : row.0 ≤ place
  pub number : range_places rows place ≡ Some (row.1 + (place - row.0))
  pub scalar : IsScalar (row.1 + (place - row.0))

pub by_row : (rows : List (ℕ × ℕ)) (i place : ℕ) (d : ℕ × ℕ) → FindsScalars (range_places rows)
    → false ≡ is_outside place → (place ≡ 7457 → ⊥)
    → IsPartitionPoint (λ r. nat_le r.0 place ≡ true) (λ r. nat_le r.0 place ≡ false) rows i
    → (i ≡ 0 → ⊥) → i ≤ length rows → ByRow rows place (slice_index_or rows (i - 1) d)
by_row rows i place d sound inside other point some within =
    let row = slice_index_or rows (i - 1) d in
    let fits : nat_le row.0 place ≡ true = point.0 (i - 1) d (omega arith) (omega arith) in
    let at : row_of rows place
    ≡ Some row = row_at rows (i - 1) place d (omega arith) fits
    (λ k e above in_rows. point.1 k e (omega arith) in_rows) in
    let number = number_at rows place row (sym inside) (grind (arith, nat_tests)) at in
    record {
      fits = leb-true row.0 place fits;
      number = number;
      scalar = sound place (row.1 + (place - row.0)) number;
    }

pub no_row : (rows : List (ℕ × ℕ)) (i place : ℕ) → false ≡ is_outside place → (place ≡ 7457 → ⊥)
    → IsPartitionPoint (λ r. nat_le r.0 place ≡ true) (λ r. nat_le r.0 place ≡ false) rows i → i ≡ 0
    → range_places rows place ≡ None
no_row rows i place inside other point none =
    no_number_at rows place (sym inside) (grind (arith, nat_tests))
    (none_fits rows place (λ k d within. point.1 k d (omega arith) within))
