-- A surrogate that begins no pair and follows no lead is unpaired.
use Rattle.std.proofs.Common.{◌≡◌, ℕ, ◌-◌, Bool, true, false, ltb, ◌&&◌, List, get_or, refl, arith}
use Rattle.std.proofs.lemmas.Bool.Decides.{nat_tests}
use Rattle.enc_handles.specs.Utf16.{is_lead, is_trail, is_surrogate, is_unpaired_at, BeginsNoPair}

surrogate_trail : (u : ℕ) → is_surrogate u ≡ true → is_lead u ≡ false → is_trail u ≡ true
surrogate_trail u e n = grind (arith, nat_tests)

pub unpaired : (units : List ℕ) (k : ℕ) → BeginsNoPair units k → (ltb 0 k && is_lead (get_or units (k - 1) 0)) ≡ false → is_unpaired_at units k ≡ true
unpaired units k b before = decide (is_lead (get_or units k 0)) refl
  where
    decide : (t : Bool) → is_lead (get_or units k 0) ≡ t → is_unpaired_at units k ≡ true
    decide true lead = rw (lead, b.alone lead) refl
    decide false lead = rw (lead, surrogate_trail (get_or units k 0) b.surrogate lead, before) refl
