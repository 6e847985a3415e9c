-- What is known of a place that was found.
use Rattle.std.proofs.Common.{◌≡◌, ℕ, zero, suc, ◌+◌, ◌<◌, Bool, true, false, sym, refl, ap, ◌∙◌, arith}
use Rattle.std.specs.Prelude.{find, Some}
use Rattle.std.specs.List.{range_with_len}
use Rattle.enc_drivers.specs.Lookup.{Places, holds, least_place}
use Rattle.enc_drivers.specs.Lemmas.LeastPlace.{held}

-- it is below the bound, and holds the scalar
pub record IsFound (places : Places) (scalar below place : ℕ) : Type 0 where
  pub within : place < below
  pub here : places place ≡ Some scalar

found_in : (test : ℕ → Bool) (from n p : ℕ) → find test (range_with_len from n) ≡ Some p → (p < from + n) × (test p ≡ true)
found_in test from zero p e = absurd cc
found_in test from (suc n) p e = by_test (test from) refl (found_in test (from + 1) n p)
  where
    by_test : (t : Bool) → test from ≡ t → (find test (range_with_len (from + 1) n) ≡ Some p → (p < from + 1 + n) × (test p ≡ true)) → (p < from + suc n) × (test p ≡ true)
    by_test true f later =
        let g : Some from ≡ Some p = rw f at e in
        let same : from ≡ p = cc in
        (omega arith, ap test (sym same) ∙ f)
    by_test false f later =
        let g : find test (range_with_len (from + 1) n) ≡ Some p = rw f at e in
        let r = later g in
        (omega (arith, r.0), r.1)

pub place_found : (places : Places) (scalar below p : ℕ) → least_place places scalar below ≡ Some p → IsFound places scalar below p
unfolding least_place
place_found places scalar below p e =
    let r = found_in (holds places scalar) 0 below p e in
    record { within = omega (arith, r.0); here = held places scalar p r.1 }

-- so it is below the bound
pub found_below : (places : Places) (scalar below p : ℕ) → Some p ≡ least_place places scalar below → p < below
found_below places scalar below p e = (place_found places scalar below p (sym e)).within
