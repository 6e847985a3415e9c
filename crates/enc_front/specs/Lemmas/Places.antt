-- What indexes find is a scalar.
use Rattle.std.specs.Prelude.{◌≡◌, ℕ, Bool, true, false, if◌then◌else◌, List, Option, Some, None}
use Rattle.std.specs.Prelude.{slice_get, refl}
use Rattle.std.specs.Char.{IsScalar}
use Rattle.std.specs.Option.{ForSome, option_and_then}
use Rattle.enc_drivers.specs.Lookup.{FindsScalars}
use Rattle.enc_front.specs.Cells.{scalar_in, cell_places}
use Rattle.enc_front.specs.Scalars.{is_scalar}

scalar_if : (cell : ℕ) (test : Bool) → is_scalar cell ≡ test
    → ForSome (if test then Some cell else None) (λ c. IsScalar c)
scalar_if cell true h c e = let same : cell ≡ c = cc in rw (← same) h
scalar_if cell false h c e = cc

found : (cell : Option ℕ) → ForSome (option_and_then scalar_in cell) (λ c. IsScalar c)
found None c e = cc
found (Some cell) c e = scalar_if cell (is_scalar cell) refl c e

pub cells_find_scalars : (cells : List ℕ) → FindsScalars (cell_places cells)
unfolding cell_places
cells_find_scalars cells place = found (slice_get cells place)
