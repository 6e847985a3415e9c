-- The rows of an index, one after the other: the first fault, and the index that rows without one
-- make.
use Rattle.std.proofs.Common.{◌≡◌, ℕ, ◌+◌, ◌<◌, ◌≤◌, zero, suc, Bool, true, false, not, List, []}
use Rattle.std.proofs.Common.{◌∷◌, ◌++◌, length, take, drop, Option, Some, None, refl, sym, ◌∙◌, ap}
use Rattle.std.proofs.Common.{subst, arith, if◌then◌else◌, ◌&&◌}
use Rattle.std.specs.Prelude.{find, is_some, nat_le, nat_lt, ◌==◌, slice_index_or}
use Rattle.std.specs.Option.{option_map, option_map_or, option_or}
use Rattle.std.proofs.lemmas.Bool.{eqb-true, ltb-false, leb-false}
use Rattle.std.proofs.lemmas.List.{take_more, drop_more, length-take-le}
use Rattle.std.proofs.lemmas.List.Folds.{find-append}
use Rattle.enc_drivers.specs.Lookup.{Places, HasNoAstral}
use Rattle.enc_front.specs.declared.tables.IndexKind.{IndexKind}
use Rattle.enc_front.specs.declared.tables.IndexKind.TheVariants.{Big5, EucKr, Jis0208, Jis0212}
use Rattle.enc_front.specs.declared.tables.IndexKind.TheVariants.{Gb18030, Gb18030Ranges, Single}
use Rattle.enc_front.specs.declared.tables.Why.{Why}
use Rattle.enc_front.specs.declared.tables.Why.TheVariants as why
use Rattle.enc_front.specs.Kinds.{is_bmp, is_ranges, place_count}
use Rattle.enc_front.specs.Scalars.{is_scalar}
use Rattle.enc_front.specs.Tables.{fault_behind, first_why, flat_why, follows, has_place}
use Rattle.enc_front.specs.Tables.{last_place, pair_places, range_why, row_why, run_end, run_fails}

-- a row with a fault, and one without
row_stops : (kind : IndexKind) (before : List (ℕ × ℕ)) (row : ℕ × ℕ) (after : List (ℕ × ℕ))
    (why : Why) → row_why kind before row after ≡ Some why
    → fault_behind kind before (row ∷ after) ≡ Some (length before, why)
row_stops kind before row after why h =
    ap (λ o. option_map_or (λ reason. Some (length before, reason)) o
    (fault_behind kind (before ++ row ∷ []) after)) h

row_goes : (kind : IndexKind) (before : List (ℕ × ℕ)) (row : ℕ × ℕ) (after : List (ℕ × ℕ))
    → row_why kind before row after ≡ None
    → fault_behind kind before (row ∷ after) ≡ fault_behind kind (before ++ row ∷ []) after
row_goes kind before row after h =
    ap (λ o. option_map_or (λ reason. Some (length before, reason)) o
    (fault_behind kind (before ++ row ∷ []) after)) h

-- the same at a place in the list
pub stops_at : (kind : IndexKind) (rows : List (ℕ × ℕ)) (i : ℕ) (d : ℕ × ℕ) (why : Why)
    → i < length rows → row_why kind (take i rows) (slice_index_or rows i d) (drop (i + 1) rows)
    ≡ Some why
    → fault_behind kind (take i rows) (drop i rows) ≡ Some (i, why)
stops_at kind rows i d why within h =
    ap (λ rest. fault_behind kind (take i rows) rest) (drop_more rows i d within)
    ∙ row_stops kind (take i rows) (slice_index_or rows i d) (drop (i + 1) rows) why h
    ∙ ap (λ n. Some (n, why)) (length-take-le i rows (omega arith))

pub goes_at : (kind : IndexKind) (rows : List (ℕ × ℕ)) (i : ℕ) (d : ℕ × ℕ) → i < length rows
    → row_why kind (take i rows) (slice_index_or rows i d) (drop (i + 1) rows) ≡ None
    → fault_behind kind (take (i + 1) rows) (drop (i + 1) rows)
    ≡ fault_behind kind (take i rows) (drop i rows)
goes_at kind rows i d within h =
    ap (λ front. fault_behind kind front (drop (i + 1) rows)) (take_more rows i d within)
    ∙ sym (ap (λ rest. fault_behind kind (take i rows) rest) (drop_more rows i d within)
    ∙ row_goes kind (take i rows) (slice_index_or rows i d) (drop (i + 1) rows) h)

-- the scalar of a place in pairs
pub has_place-is : (rows : List (ℕ × ℕ)) (place : ℕ)
    → has_place rows place ≡ is_some (pair_places rows place)
unfolding pair_places
has_place-is [] place = refl
has_place-is (row ∷ rows) place = by_test (row.0 == place) refl (has_place-is rows place)
  where
    by_test : (test : Bool) → (row.0 == place) ≡ test
        → has_place rows place ≡ is_some (pair_places rows place)
        → has_place (row ∷ rows) place ≡ is_some (pair_places (row ∷ rows) place)
    by_test true h ih = rw h refl
    by_test false h ih = rw h ih

none_some : (o : Option ℕ) → is_some o ≡ false → o ≡ None
none_some None h = refl
none_some (Some x) h = cc

or_none : {X : Type 0} (o : Option X) → option_or o None ≡ o
or_none None = refl
or_none (Some x) = refl

-- one more pair, of a new place
pub pair_more : (rows : List (ℕ × ℕ)) (row : ℕ × ℕ) (place : ℕ)
    → is_some (pair_places rows row.0) ≡ false
    → pair_places (rows ++ row ∷ []) place
    ≡ (if row.0 == place then Some row.1 else pair_places rows place)
unfolding pair_places
pair_more rows row place new = by_test (row.0 == place) refl
  where
    appended : pair_places (rows ++ row ∷ []) place
        ≡ option_map (λ pair. pair.1)
        (option_or (find (λ pair. pair.0 == place) rows)
        (find (λ pair. pair.0 == place) (row ∷ [])))
    appended = ap (λ o. option_map (λ pair. pair.1) o)
        (find-append (λ pair. pair.0 == place) rows (row ∷ []))

    no_pair : (o : Option (ℕ × ℕ)) → is_some (option_map (λ pair. pair.1) o) ≡ false → o ≡ None
    no_pair None h = refl
    no_pair (Some x) h = cc

    by_test : (test : Bool) → (row.0 == place) ≡ test
        → pair_places (rows ++ row ∷ []) place
        ≡ (if row.0 == place then Some row.1 else pair_places rows place)
    by_test true h =
        let new_place : is_some (pair_places rows place)
        ≡ false = subst (λ q. is_some (pair_places rows q) ≡ false)
        (eqb-true row.0 place h) new in
        let nothing : find (λ pair. pair.0 == place) rows
        ≡ None = no_pair (find (λ pair. pair.0 == place) rows) new_place in
        appended ∙ rw (nothing, h) refl
    by_test false h = appended
        ∙ rw h (ap (λ o. option_map (λ pair. pair.1) o)
        (or_none (find (λ pair. pair.0 == place) rows)))

-- the tests of a flat index that a row passes
pub record PassesFlat (kind : IndexKind) (taken : Bool) (row : ℕ × ℕ) : Type 0 where
  pub place : row.0 < place_count kind
  pub new : taken ≡ false
  pub scalar : is_scalar row.1 ≡ true
  pub bmp : is_bmp kind ≡ true → row.1 < 0x10000

pub five_none : (a b c d e : Bool) (v w x y z : Why)
    → first_why ((a, v) ∷ (b, w) ∷ (c, x) ∷ (d, y) ∷ (e, z) ∷ []) ≡ None
    → (a ≡ false) × (b ≡ false) × (c ≡ false) × (d ≡ false) × (e ≡ false)
five_none true b c d e v w x y z h = cc
five_none false true c d e v w x y z h = cc
five_none false false true d e v w x y z h = cc
five_none false false false true e v w x y z h = cc
five_none false false false false true v w x y z h = cc
five_none false false false false false v w x y z h = (refl, refl, refl, refl, refl)

pub not_false : (b : Bool) → not b ≡ false → b ≡ true
not_false true h = refl
not_false false h = cc

and_right : (x y : Bool) → (x && y) ≡ false → x ≡ true → y ≡ false
and_right true y h k = h
and_right false y h k = cc

below_astral : (c : ℕ) → c ≤ 0xFFFF → c < 0x10000
below_astral c h = omega arith

pub passes_flat : (kind : IndexKind) (taken : Bool) (row : ℕ × ℕ) → flat_why kind taken row ≡ None
    → PassesFlat kind taken row
passes_flat kind taken row h =
    let tests = five_none (nat_le (place_count kind) row.0) taken (nat_lt row.1 0x80)
    (not (is_scalar row.1)) (is_bmp kind && nat_lt 0xFFFF row.1)
    why.Place why.Twice why.Ascii why.NotScalar why.NotBmp h in
    record {
      place = leb-false (place_count kind) row.0 tests.0;
      new = tests.1;
      scalar = not_false (is_scalar row.1) tests.3;
      bmp = λ is. below_astral row.1
          (ltb-false 0xFFFF row.1 (and_right (is_bmp kind) (nat_lt 0xFFFF row.1) tests.4 is));
    }

-- a row's reason by the kind's list
pub flat_row : (kind : IndexKind) (before : List (ℕ × ℕ)) (row : ℕ × ℕ) (after : List (ℕ × ℕ))
    (taken : Bool) → is_ranges kind ≡ false → taken ≡ is_some (pair_places before row.0)
    → row_why kind before row after ≡ flat_why kind taken row
flat_row kind before row after taken flat is =
    rw flat (ap (λ t. flat_why kind t row) (has_place-is before row.0 ∙ sym is))

-- the loop over the pairs of a flat index
pub flat_stops : (kind : IndexKind) (pairs : List (ℕ × ℕ)) (i : ℕ) (d : ℕ × ℕ) (taken : Bool)
    (why : Why) → is_ranges kind ≡ false → i < length pairs
    → taken ≡ is_some (pair_places (take i pairs) (slice_index_or pairs i d).0)
    → flat_why kind taken (slice_index_or pairs i d) ≡ Some why
    → fault_behind kind (take i pairs) (drop i pairs) ≡ Some (i, why)
flat_stops kind pairs i d taken why flat within is h =
    stops_at kind pairs i d why within
    (flat_row kind (take i pairs) (slice_index_or pairs i d) (drop (i + 1) pairs) taken flat is
    ∙ h)

pub flat_goes : (kind : IndexKind) (pairs : List (ℕ × ℕ)) (i : ℕ) (d : ℕ × ℕ) (taken : Bool)
    → is_ranges kind ≡ false → i < length pairs
    → taken ≡ is_some (pair_places (take i pairs) (slice_index_or pairs i d).0)
    → flat_why kind taken (slice_index_or pairs i d) ≡ None
    → fault_behind kind (take (i + 1) pairs) (drop (i + 1) pairs)
    ≡ fault_behind kind (take i pairs) (drop i pairs)
flat_goes kind pairs i d taken flat within is h =
    goes_at kind pairs i d within
    (flat_row kind (take i pairs) (slice_index_or pairs i d) (drop (i + 1) pairs) taken flat is
    ∙ h)

pub pair_step : (pairs : List (ℕ × ℕ)) (i : ℕ) (d : ℕ × ℕ) (taken : Bool) (place : ℕ)
    → i < length pairs
    → taken ≡ is_some (pair_places (take i pairs) (slice_index_or pairs i d).0) → taken ≡ false
    → pair_places (take (i + 1) pairs) place
    ≡ (if (slice_index_or pairs i d).0 == place then Some (slice_index_or pairs i d).1
    else pair_places (take i pairs) place)
pair_step pairs i d taken place within is new =
    ap (λ front. pair_places front place) (take_more pairs i d within)
    ∙ pair_more (take i pairs) (slice_index_or pairs i d) place (sym is ∙ new)

pub no_pairs : (place : ℕ) → pair_places [] place ≡ None
unfolding pair_places
no_pairs place = refl

pub same_places : (f g : Places) → ((place : ℕ) → f place ≡ g place) → f ≡ g
same_places f g h = λ i place. h place i

-- the loop over the rows of ranges
pub last_more : (rows : List (ℕ × ℕ)) (row : ℕ × ℕ) → last_place (rows ++ row ∷ []) ≡ Some row.0
last_more [] row = refl
last_more (first ∷ rows) row = rw (last_more rows row) refl

pub last_step : (rows : List (ℕ × ℕ)) (i : ℕ) (d : ℕ × ℕ) → i < length rows
    → last_place (take (i + 1) rows) ≡ Some (slice_index_or rows i d).0
last_step rows i d within = ap last_place (take_more rows i d within)
    ∙ last_more (take i rows) (slice_index_or rows i d)

pub range_row : (before : List (ℕ × ℕ)) (row : ℕ × ℕ) (after : List (ℕ × ℕ)) (last : Option ℕ)
    (end : ℕ) → last ≡ last_place before → end ≡ run_end after
    → row_why Gb18030Ranges before row after
    ≡ range_why (follows last row.0) (run_fails row end) row
range_row before row after last end last_is end_is =
    sym (ap (λ l. range_why (follows l row.0) (run_fails row end) row) last_is
    ∙ ap (λ e. range_why (follows (last_place before) row.0) (run_fails row e) row) end_is)

pub end_some : (rows : List (ℕ × ℕ)) (i : ℕ) (row : ℕ × ℕ) → i < length rows
    → row ≡ slice_index_or rows i row → row.0 ≡ run_end (drop i rows)
end_some rows i row within is = ap (λ r. r.0) is ∙ sym (ap run_end (drop_more rows i row within))

pub end_none : (rows : List (ℕ × ℕ)) (i : ℕ) → length rows ≤ i → 1237576 ≡ run_end (drop i rows)
end_none [] zero h = refl
end_none [] (suc i) h = refl
end_none (row ∷ rows) zero h = absurd (omega arith)
end_none (row ∷ rows) (suc i) h = end_none rows i (omega arith)

-- rows without a fault
pub none_parts : (kind : IndexKind) (before : List (ℕ × ℕ)) (row : ℕ × ℕ) (after : List (ℕ × ℕ))
    → fault_behind kind before (row ∷ after) ≡ None
    → (row_why kind before row after ≡ None) × (fault_behind kind (before ++ row ∷ []) after ≡ None)
none_parts kind before row after h = parts (row_why kind before row after) refl h
  where
    parts : (o : Option Why) → row_why kind before row after ≡ o
        → option_map_or (λ reason. Some (length before, reason)) o
        (fault_behind kind (before ++ row ∷ []) after) ≡ None
        → (row_why kind before row after ≡ None)
        × (fault_behind kind (before ++ row ∷ []) after ≡ None)
    parts None e k = (e, k)
    parts (Some why) e k = cc

pub kind_of_ranges : (kind : IndexKind) → is_ranges kind ≡ true → kind ≡ Gb18030Ranges
kind_of_ranges Big5 h = cc
kind_of_ranges EucKr h = cc
kind_of_ranges Jis0208 h = cc
kind_of_ranges Jis0212 h = cc
kind_of_ranges Gb18030 h = cc
kind_of_ranges Gb18030Ranges h = refl
kind_of_ranges (Single name) h = cc

bmp_is_flat : (kind : IndexKind) → is_bmp kind ≡ true → is_ranges kind ≡ false
bmp_is_flat Big5 h = refl
bmp_is_flat EucKr h = refl
bmp_is_flat Jis0208 h = refl
bmp_is_flat Jis0212 h = refl
bmp_is_flat Gb18030 h = refl
bmp_is_flat Gb18030Ranges h = cc
bmp_is_flat (Single name) h = refl

-- pairs without a fault have no scalar above U+FFFF
pub pairs_bmp : (kind : IndexKind) (before pairs : List (ℕ × ℕ)) → is_bmp kind ≡ true
    → fault_behind kind before pairs ≡ None → HasNoAstral (pair_places pairs)
unfolding pair_places
pairs_bmp kind before [] bmp none place c e = cc
pairs_bmp kind before (pair ∷ pairs) bmp none place c e =
    let parts = none_parts kind before pair pairs none in
    let flat = flat_row kind before pair pairs (is_some (pair_places before pair.0))
    (bmp_is_flat kind bmp) refl in
    let low = (passes_flat kind (is_some (pair_places before pair.0)) pair (sym flat ∙ parts.0)).bmp
    bmp in
    by_test (pair.0 == place) refl low
    (pairs_bmp kind (before ++ pair ∷ []) pairs bmp parts.1 place c) e
  where
    by_test : (test : Bool) → (pair.0 == place) ≡ test → pair.1 < 0x10000
        → (pair_places pairs place ≡ Some c → c < 0x10000)
        → pair_places (pair ∷ pairs) place ≡ Some c → c < 0x10000
    by_test true h low rest is = let same : pair.1
        ≡ c = cc (rw h at is) in subst (λ k. k < 0x10000) same low
    by_test false h low rest is = rest (rw h at is)
