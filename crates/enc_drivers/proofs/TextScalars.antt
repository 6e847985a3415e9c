-- What text has to be read are scalars.
use Rattle.std.proofs.Common.{◌≡◌, ℕ, suc, ◌<◌, ◌≤◌, Bool, true, false, List, [], ◌∷◌, ◌++◌, refl, arith, append_assoc, get_or, Fits, w16}
use Rattle.std.specs.Prelude.{◌&&◌}
use Rattle.std.specs.Char.{IsScalar}
use Rattle.std.proofs.lemmas.Bool.{and_from, and_parts}
use Rattle.std.proofs.lemmas.Bool.Decides.{nat_tests}
use Rattle.enc_handles.specs.Reading.{Reading, left}
use Rattle.enc_handles.specs.Scalars.{ReadsScalars, lone_scalar, scalars16}
use Rattle.enc_handles.specs.Utf8.{AreScalars}
use Rattle.enc_handles.specs.Utf16.{is_lead, is_trail, is_surrogate, pair_scalar}
use Rattle.enc_handles.specs.Writing.{Writing}
use Rattle.enc_drivers.specs.Encode.{BytesOf}
use Rattle.enc_drivers.specs.Encoding.{Encodes}
use Rattle.enc_drivers.specs.Lemmas.Scalars.{scalar_high}

behind : (xs ys : List ℕ) → AreScalars (xs ++ ys) → AreScalars ys
behind [] ys h = h
behind (x ∷ xs) ys h = behind xs ys (and_parts _ _ h).1

-- what is left behind some that were encoded
pub scalars_behind : (scalars_of : List ℕ → List ℕ) (bytes_of : BytesOf) (old new : Reading) (before after : Writing) (unmappable : List ℕ)
    → Encodes scalars_of bytes_of old new before after unmappable → AreScalars (scalars_of (left old)) → AreScalars (scalars_of (left new))
scalars_behind scalars_of bytes_of old new before after unmappable e are =
    let all : AreScalars ((e.scalars ++ unmappable) ++ scalars_of (left new)) = rw (← e.reads.rest) are in
    behind (e.scalars ++ unmappable) (scalars_of (left new)) all

-- the one that was read last
pub last_scalar : (scalars_of : List ℕ → List ℕ) (old new : Reading) (xs : List ℕ) (scalar : ℕ) → ReadsScalars scalars_of old new (xs ++ scalar ∷ [])
    → AreScalars (scalars_of (left old)) → IsScalar scalar
last_scalar scalars_of old new xs scalar reads are =
    let rest = scalars_of (left new) in
    let all : AreScalars ((xs ++ scalar ∷ []) ++ scalars_of (left new)) = rw (← reads.rest) are in
    let split : AreScalars (xs ++ (scalar ∷ scalars_of (left new))) = rw (← append_assoc xs (scalar ∷ []) (scalars_of (left new))) all in
    (and_parts _ _ (behind xs (scalar ∷ scalars_of (left new)) split)).0

lone_is : (unit : ℕ) → Fits w16 unit → IsScalar (lone_scalar unit)
lone_is unit h = by_test (is_surrogate unit) refl
  where
    by_test : (t : Bool) → is_surrogate unit ≡ t → IsScalar (lone_scalar unit)
    by_test true e = rw e refl
    by_test false e = rw e (grind (arith, nat_tests))

pair_is : (lead trail : ℕ) → (is_lead lead && is_trail trail) ≡ true → IsScalar (pair_scalar lead trail)
pair_is lead trail h =
    let parts = and_parts (is_lead lead) (is_trail trail) h in
    let low : 0xE000 ≤ pair_scalar lead trail = omega arith in
    let high : pair_scalar lead trail < 0x110000 = grind (arith, nat_tests) in
    scalar_high (pair_scalar lead trail) low high

-- those of UTF-16
pub scalars16_are : (units : List ℕ) → ((i : ℕ) → Fits w16 (get_or units i 0)) → AreScalars (scalars16 units)
unfolding scalars16
scalars16_are [] fits = refl
scalars16_are (unit ∷ []) fits = and_from _ _ (lone_is unit (fits 0)) refl
scalars16_are (unit ∷ next ∷ units) fits =
    by_test (is_lead unit && is_trail next) refl (scalars16_are units (λ i. fits (suc (suc i)))) (scalars16_are (next ∷ units) (λ i. fits (suc i)))
  where
    by_test : (t : Bool) → (is_lead unit && is_trail next) ≡ t → AreScalars (scalars16 units) → AreScalars (scalars16 (next ∷ units)) → AreScalars (scalars16 (unit ∷ next ∷ units))
    by_test true e pair lone = rw e (and_from _ _ (pair_is unit next e) pair)
    by_test false e pair lone = rw e (and_from _ _ (lone_is unit (fits 0)) lone)
