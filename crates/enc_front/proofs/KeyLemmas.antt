-- The keys of an index: there is one for each scalar and each place that holds it, and the least
-- place has the first.
use Rattle.std.proofs.Common.{◌≡◌, ℕ, ◌-◌, ◌<◌, ◌≤◌, zero, suc, Bool, true, false, List, [], ◌∷◌}
use Rattle.std.proofs.Common.{◌++◌, length, Option, Some, None, refl, sym, ◌∙◌, ap, arith}
use Rattle.std.proofs.Common.{if◌then◌else◌, ⊎_elim, ◌||◌}
use Rattle.std.specs.Prelude.{is_some, nat_lt, ◌==◌, slice_index_or}
use Rattle.std.specs.List.Sorted.{IsNonDecreasing, IsPartitionPoint}
use Rattle.std.specs.Option.{option_map_or}
use Rattle.std.proofs.lemmas.Bool.{cases_lt, eqb-true, ltb-false, ltb-true}
use Rattle.std.proofs.lemmas.Bool.Decides.{nat_tests}
use Rattle.std.proofs.lemmas.List.Folds.{list_any-append}
use Rattle.enc_drivers.specs.Lookup.{Places, holds, least_place}
use Rattle.enc_drivers.specs.Lemmas.LeastPlace.{least_none, least_some}
use Rattle.enc_front.specs.declared.tables.IndexKind.{IndexKind}
use Rattle.enc_front.specs.declared.tables.IndexKind.TheVariants.{Big5, EucKr, Jis0208, Jis0212}
use Rattle.enc_front.specs.declared.tables.IndexKind.TheVariants.{Gb18030, Gb18030Ranges, Single}
use Rattle.enc_front.specs.Keys.{FindsPlaces, has_key, key_of, pair_keys}
use Rattle.enc_front.specs.Kinds.{is_ranges, place_count}
use Rattle.enc_front.specs.Tables.{fault_behind, has_place, pair_places, row_why}
use Rattle.enc_front.proofs.RowLemmas.{PassesFlat, flat_row, has_place-is, none_parts, passes_flat}

or_true : (b : Bool) → (b || true) ≡ true
or_true true = refl
or_true false = refl

-- a key that is there stands somewhere, and one that stands somewhere is there
pub record KeyAt (keys : List ℕ) (key : ℕ) : Type 0 where
  pub at : ℕ
  pub within : at < length keys
  pub is : (d : ℕ) → slice_index_or keys at d ≡ key

pub key_at : (keys : List ℕ) (key : ℕ) → has_key keys key ≡ true → KeyAt keys key
key_at [] key h = cc
key_at (k ∷ keys) key h = by_test (k == key) refl h (key_at keys key)
  where
    by_test : (t : Bool) → (k == key) ≡ t → (t || has_key keys key) ≡ true
        → (has_key keys key ≡ true → KeyAt keys key) → KeyAt (k ∷ keys) key
    by_test true e h rest = record { at = 0; within = omega arith; is = λ d. eqb-true k key e }
    by_test false e h rest = let r = rest h in
        record { at = suc r.at; within = omega (arith, r.within); is = r.is }

pub has_at : (keys : List ℕ) (j d : ℕ) → j < length keys
    → has_key keys (slice_index_or keys j d) ≡ true
has_at [] j d h = absurd (omega arith)
has_at (k ∷ keys) zero d h = let same : (k == k) ≡ true = grind (arith, nat_tests) in rw same refl
has_at (k ∷ keys) (suc j) d h =
    rw (has_at keys j d (omega arith)) (or_true (k == slice_index_or keys j d))

-- the first key that isn't below those of a scalar
abbrev IsFront : List ℕ → ℕ → ℕ → Type 0
IsFront keys scalar i = IsPartitionPoint (λ k. nat_lt k (key_of scalar 0) ≡ true)
    (λ k. nat_lt k (key_of scalar 0) ≡ false) keys i

-- a place whose key stands nowhere from there on doesn't hold the scalar
not_held : (keys : List ℕ) (places : Places) (scalar i place : ℕ) → FindsPlaces keys places
    → IsFront keys scalar i → place < 0x100000000
    → ((j : ℕ) → i ≤ j → j < length keys → ((d : ℕ) → slice_index_or keys j d ≡ key_of scalar place)
    → ⊥) → holds places scalar place ≡ false
not_held keys places scalar i place finds front fits nowhere =
    by_test (holds places scalar place) refl
  where
    stands : KeyAt keys (key_of scalar place) → ⊥
    stands at =
        ⊎_elim {C = ⊥}
        (λ before. let below = ltb-true (slice_index_or keys at.at 0) (key_of scalar 0)
        (front.0 at.at 0 (omega arith) before) in
        let is = at.is 0 in absurd (omega (arith, below, is)))
        (λ behind. nowhere at.at behind at.within at.is)
        (cases_lt at.at i)

    by_test : (t : Bool) → holds places scalar place ≡ t → holds places scalar place ≡ false
    by_test true h = absurd
        (stands (key_at keys (key_of scalar place) (finds scalar place fits ∙ h)))
    by_test false h = h

pub no_key : (keys : List ℕ) (places : Places) (scalar below i : ℕ) → FindsPlaces keys places
    → IsFront keys scalar i → below < 0x100000000 → length keys ≤ i
    → least_place places scalar below ≡ None
no_key keys places scalar below i finds front fits past =
    least_none places scalar below
    (λ place within. not_held keys places scalar i place finds front (omega arith)
    (λ j behind in_keys is. absurd (omega arith)))

pub record ByKey (places : Places) (scalar below key : ℕ) : Type 0 where
  pub above : key_of scalar 0 ≤ key
  pub place : (if nat_lt (key - key_of scalar 0) below then Some (key - key_of scalar 0) else None)
      ≡ least_place places scalar below

pub by_key : (keys : List ℕ) (places : Places) (scalar below i key : ℕ) → FindsPlaces keys places
    → IsNonDecreasing keys → IsFront keys scalar i → below < 0x100000000
    → i < length keys → key ≡ slice_index_or keys i key → ByKey places scalar below key
by_key keys places scalar below i key finds sorted front fits within is =
    record { above = above; place = by_test (nat_lt (key - key_of scalar 0) below) refl }
  where
    above : key_of scalar 0 ≤ key
    above = let low = ltb-false (slice_index_or keys i key) (key_of scalar 0)
        (front.1 i key (omega arith) within) in omega (arith, low, is)

    before : (place : ℕ) → place < 0x100000000 → key_of scalar place < key
        → holds places scalar place ≡ false
    before place small under =
        not_held keys places scalar i place finds front small
        (λ j behind in_keys at. let up = sorted i j key behind in_keys in let here = at key in
        absurd (omega (arith, up, here, is, under)))

    by_test : (t : Bool) → nat_lt (key - key_of scalar 0) below ≡ t
        → (if t then Some (key - key_of scalar 0) else None) ≡ least_place places scalar below
    by_test true h =
        let p = key - key_of scalar 0 in
        let under : p < below = ltb-true p below h in
        let whole : key_of scalar p ≡ slice_index_or keys i key = omega (arith, above, is) in
        let here : holds places scalar p ≡ true = sym (finds scalar p (omega arith))
        ∙ ap (λ k. has_key keys k) whole ∙ has_at keys i key within in
        sym (least_some places scalar below p under here
        (λ q less. before q (omega arith) (omega (arith, above, less))))
    by_test false h =
        let over = ltb-false (key - key_of scalar 0) below h in
        sym (least_none places scalar below
        (λ q less. before q (omega arith) (omega (arith, above, over, less))))

-- pairs without a fault have no place twice
small_place : (kind : IndexKind) (place : ℕ) → place < place_count kind → place < 0x100000000
small_place Big5 place h = omega arith
small_place EucKr place h = omega arith
small_place Jis0208 place h = omega arith
small_place Jis0212 place h = omega arith
small_place Gb18030 place h = omega arith
small_place Gb18030Ranges place h = omega arith
small_place (Single name) place h = omega arith

passes_first : (kind : IndexKind) (before : List (ℕ × ℕ)) (pair : ℕ × ℕ) (after : List (ℕ × ℕ))
    → is_ranges kind ≡ false → row_why kind before pair after ≡ None
    → PassesFlat kind (is_some (pair_places before pair.0)) pair
passes_first kind before pair after flat none =
    passes_flat kind (is_some (pair_places before pair.0)) pair
    (sym (flat_row kind before pair after (is_some (pair_places before pair.0)) flat refl)
    ∙ none)

places_new : (kind : IndexKind) (before pairs : List (ℕ × ℕ)) (place : ℕ) → is_ranges kind ≡ false
    → fault_behind kind before pairs ≡ None → has_place before place ≡ true
    → has_place pairs place ≡ false
places_new kind before [] place flat none there = refl
places_new kind before (pair ∷ pairs) place flat none there =
    let parts = none_parts kind before pair pairs none in
    let passes = passes_first kind before pair pairs flat parts.0 in
    by_test (pair.0 == place) refl passes.new
    (λ h. places_new kind (before ++ pair ∷ []) pairs place flat parts.1 h)
  where
    by_test : (t : Bool) → (pair.0 == place) ≡ t → is_some (pair_places before pair.0) ≡ false
        → (has_place (before ++ pair ∷ []) place ≡ true → has_place pairs place ≡ false)
        → (t || has_place pairs place) ≡ false
    by_test true e new rest =
        let taken : has_place before pair.0 ≡ true = ap (has_place before) (eqb-true pair.0 place e)
        ∙ there in
        let not_taken : has_place before pair.0 ≡ false = has_place-is before pair.0 ∙ new in
        cc
    by_test false e new rest = rest (list_any-append (λ row. row.0 == place) before (pair ∷ [])
        ∙ rw there refl)

-- so each scalar and each place that holds it has a key
pub keys_find : (kind : IndexKind) (before pairs : List (ℕ × ℕ)) → is_ranges kind ≡ false
    → fault_behind kind before pairs ≡ None → FindsPlaces (pair_keys pairs) (pair_places pairs)
unfolding pair_places
keys_find kind before [] flat none scalar place fits = refl
keys_find kind before (pair ∷ pairs) flat none scalar place fits =
    let parts = none_parts kind before pair pairs none in
    let passes = passes_first kind before pair pairs flat parts.0 in
    by_test (pair.0 == place) refl (small_place kind pair.0 passes.place)
    (λ h. places_new kind (before ++ pair ∷ []) pairs place flat parts.1 h)
    (keys_find kind (before ++ pair ∷ []) pairs flat parts.1 scalar place fits)
  where
    nothing : has_place pairs place ≡ false → holds (pair_places pairs) scalar place ≡ false
    nothing h = not_some (pair_places pairs place) (sym (has_place-is pairs place) ∙ h)
      where
        not_some : (o : Option ℕ) → is_some o ≡ false
            → option_map_or (λ c. c == scalar) o false ≡ false
        not_some None e = refl
        not_some (Some c) e = cc

    there : pair.0 ≡ place → has_place (before ++ pair ∷ []) place ≡ true
    there e =
        let same : (pair.0 == place) ≡ true = grind (arith, nat_tests) in
        list_any-append (λ row. row.0 == place) before (pair ∷ [])
        ∙ rw same (or_true (has_place before place))

    by_scalar : (t : Bool) → (pair.1 == scalar) ≡ t → pair.0 ≡ place
        → has_key (pair_keys pairs) (key_of scalar place) ≡ false
        → ((key_of pair.1 pair.0 == key_of scalar place)
        || has_key (pair_keys pairs) (key_of scalar place)) ≡ t
    by_scalar true e same rest =
        let equal = eqb-true pair.1 scalar e in
        let whole : key_of pair.1 pair.0 ≡ key_of scalar place = omega (arith, equal, same) in
        let test : (key_of pair.1 pair.0 == key_of scalar place)
        ≡ true = grind (arith, nat_tests) in
        rw test refl
    by_scalar false e same rest =
        let test : (key_of pair.1 pair.0 == key_of scalar place)
        ≡ false = grind (arith, nat_tests) in
        rw test rest

    by_test : (t : Bool) → (pair.0 == place) ≡ t → pair.0 < 0x100000000
        → (has_place (before ++ pair ∷ []) place ≡ true → has_place pairs place ≡ false)
        → has_key (pair_keys pairs) (key_of scalar place) ≡ holds (pair_places pairs) scalar place
        → has_key (pair_keys (pair ∷ pairs)) (key_of scalar place)
        ≡ holds (pair_places (pair ∷ pairs)) scalar place
    by_test true e small new rest =
        let same = eqb-true pair.0 place e in
        by_scalar (pair.1 == scalar) refl same (rest ∙ nothing (new (there same))) ∙ rw e refl
    by_test false e small new rest =
        let test : (key_of pair.1 pair.0 == key_of scalar place)
        ≡ false = grind (arith, nat_tests) in
        rw (test, e) rest
