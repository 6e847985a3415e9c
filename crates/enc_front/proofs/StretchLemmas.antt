-- What the keys have makes a stretch longer, or begins one.
use Rattle.std.proofs.Common.{◌≡◌, ℕ, ◌+◌, ◌-◌, ◌/◌, ◌%◌, ◌<◌, ◌≤◌, Bool, true, false, List}
use Rattle.std.proofs.Common.{length, refl, sym, ◌∙◌, ap, arith, ⊎_elim}
use Rattle.std.proofs.Common.{Some, None, if◌then◌else◌}
use Rattle.std.specs.Prelude.{◌==◌, nat_lt, slice_index}
use Rattle.std.specs.List.Sorted.{IsNonDecreasing}
use Rattle.std.proofs.lemmas.Bool.{cases_eq, cases_lt, ltb-false, ltb-true}
use Rattle.std.proofs.lemmas.Bool.Decides.{nat_tests}
use Rattle.enc_drivers.specs.Lookup.{Places, holds, least_place}
use Rattle.enc_drivers.specs.Lemmas.LeastPlace.{least_none, least_some}
use Rattle.enc_front.specs.declared.stretch.Stretch.{Stretch}
use Rattle.enc_front.specs.Keys.{FindsPlaces, has_key, key_of}
use Rattle.enc_front.specs.Stretch.{AreBelow, GoesOn, HasStretch, IsWithin}
use Rattle.enc_front.proofs.KeyLemmas.{KeyAt, has_at, key_at}

no_key : (keys : List ℕ) (key : ℕ) → (KeyAt keys key → ⊥) → has_key keys key ≡ false
no_key keys key none = by_test (has_key keys key) refl
  where
    by_test : (t : Bool) → has_key keys key ≡ t → has_key keys key ≡ false
    by_test true h = absurd (none (key_at keys key h))
    by_test false h = h

-- the first key of a scalar has its least place
first_of : (keys : List ℕ) (count scalar least : ℕ) → IsNonDecreasing keys → count < length keys
    → slice_index keys count ≡ key_of scalar least
    → ((j : ℕ) → j < count → slice_index keys j < key_of scalar 0)
    → (place : ℕ) → place ≤ least → has_key keys (key_of scalar place) ≡ (place == least)
first_of keys count scalar least sorted within is below place low =
    ⊎_elim here before (cases_eq place least)
  where
    here : place ≡ least → has_key keys (key_of scalar place) ≡ (place == least)
    here e =
        let same : key_of scalar place ≡ slice_index keys count = omega (arith, e, is) in
        let test : (place == least) ≡ true = grind (arith, nat_tests) in
        ap (has_key keys) same ∙ has_at keys count 0 within ∙ sym test

    nowhere : place < least → KeyAt keys (key_of scalar place) → ⊥
    nowhere less at =
        ⊎_elim {C = ⊥}
        (λ early. let under = below at.at early in let found = at.is 0 in
        omega (arith, under, found))
        (λ late. let up = sorted count at.at 0 late at.within in let found = at.is 0 in
        omega (arith, up, found, is, less))
        (cases_lt at.at count)

    before : (place ≡ least → ⊥) → has_key keys (key_of scalar place) ≡ (place == least)
    before other =
        let less : place < least = omega (arith, low, other) in
        let test : (place == least) ≡ false = grind (arith, nat_tests) in
        no_key keys (key_of scalar place) (nowhere less) ∙ sym test

-- the key of the next scalar at the next place
pub grows : (key : ℕ) (before after : Stretch) → key / 0x1_0000_0000 ≡ before.scalar + before.length
    → key % 0x1_0000_0000 ≡ before.place + before.length
    → before.place + before.length < 0x1_0000_0000
    → after.scalar ≡ before.scalar → after.place ≡ before.place → after.length ≡ before.length + 1
    → GoesOn key before after
grows key before after scalar_is place_is small same_scalar same_place longer keys count sorted within at ends =
    record { has = has; below = below }
  where
    end : ℕ
    end = before.scalar + before.length

    whole : slice_index keys count ≡ key_of end (before.place + before.length)
    whole = omega (arith, at, scalar_is, place_is)

    has : HasStretch keys after
    has i place less low =
        ⊎_elim old new (cases_lt i before.length)
      where
        old : i < before.length
            → has_key keys (key_of (after.scalar + i) place) ≡ (place == after.place + i)
        old h = rw (same_scalar, same_place) (ends.has i place h (omega (arith, same_place, low)))

        new : before.length ≤ i
            → has_key keys (key_of (after.scalar + i) place) ≡ (place == after.place + i)
        new h =
            let last : i ≡ before.length = omega (arith, h, less, longer) in
            rw (same_scalar, same_place, last)
            (first_of keys count end (before.place + before.length) sorted within whole ends.below
            place (omega (arith, low, last, same_place)))

    below : AreBelow keys (count + 1) after
    below j h =
        ⊎_elim
        (λ early. let under = ends.below j early in omega (arith, under, same_scalar, longer))
        (λ late. let here : j ≡ count = omega (arith, late, h) in
        let found = ap (slice_index keys) here ∙ whole in
        omega (arith, found, small, same_scalar, longer))
        (cases_lt j count)

-- a key of a scalar behind it
pub starts : (key : ℕ) (before after : Stretch) → before.scalar + before.length ≤ key / 0x1_0000_0000
    → after.scalar ≡ key / 0x1_0000_0000 → after.place ≡ key % 0x1_0000_0000 → after.length ≡ 1
    → GoesOn key before after
starts key before after behind scalar_is place_is one keys count sorted within at ends =
    record { has = has; below = below }
  where
    whole : slice_index keys count ≡ key_of after.scalar after.place
    whole = omega (arith, at, scalar_is, place_is)

    under : (j : ℕ) → j < count → slice_index keys j < key_of after.scalar 0
    under j h = let old = ends.below j h in omega (arith, old, behind, scalar_is)

    has : HasStretch keys after
    has i place less low =
        let none : i ≡ 0 = omega (arith, less, one) in
        let scalar : after.scalar + i ≡ after.scalar = omega (arith, none) in
        let here : after.place + i ≡ after.place = omega (arith, none) in
        rw (scalar, here)
        (first_of keys count after.scalar after.place sorted within whole under place
        (omega (arith, low, none)))

    below : AreBelow keys (count + 1) after
    below j h =
        ⊎_elim
        (λ early. let old = under j early in omega (arith, old, one))
        (λ late. let here : j ≡ count = omega (arith, late, h) in
        let found = ap (slice_index keys) here ∙ at in
        omega (arith, found, scalar_is, one))
        (cases_lt j count)

-- a scalar of the stretch is found by its distance from the first one
pub by_stretch : (keys : List ℕ) (places : Places) (stretch : Stretch) (scalar below place : ℕ)
    → FindsPlaces keys places → HasStretch keys stretch
    → stretch.place + stretch.length ≤ 0x1_0000_0000 → IsWithin stretch scalar place
    → (if nat_lt place below then Some place else None) ≡ least_place places scalar below
by_stretch keys places stretch scalar below place finds has fits within =
    by_test (nat_lt place below) refl
  where
    from : ℕ
    from = place - stretch.place

    end : stretch.place + from ≡ place
    end = let above = within.above in omega (arith, above)

    found : (other : ℕ) → other ≤ place → holds places scalar other ≡ (other == place)
    found other low =
        let above = within.above in
        let under = within.under in
        let small : other < 0x100000000 = omega (arith, low, under, fits) in
        let here : from < stretch.length = omega (arith, above, under) in
        sym (finds scalar other small)
        ∙ ap (λ s. has_key keys (key_of s other)) within.offset
        ∙ has from other here (omega (arith, low, end))
        ∙ ap (λ p. other == p) end

    this : holds places scalar place ≡ true
    this = let test : (place == place) ≡ true = grind (arith, nat_tests) in
        found place (omega arith) ∙ test

    before : (other : ℕ) → other < place → holds places scalar other ≡ false
    before other less = let test : (other == place) ≡ false = grind (arith, nat_tests) in
        found other (omega (arith, less)) ∙ test

    by_test : (t : Bool) → nat_lt place below ≡ t
        → (if t then Some place else None) ≡ least_place places scalar below
    by_test true h = sym (least_some places scalar below place (ltb-true place below h) this before)
    by_test false h =
        let over = ltb-false place below h in
        sym (least_none places scalar below
        (λ other less. before other (omega (arith, over, less))))
