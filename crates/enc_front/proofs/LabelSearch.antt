-- A binary search finds the first row of a label, since the table is in order.
use Rattle.std.proofs.Common.{◌≡◌, ℕ, ◌+◌, ◌<◌, ◌≤◌, zero, suc, Bool, true, false, not, ◌&&◌, List}
use Rattle.std.proofs.Common.{[], ◌∷◌, drop, length, Some, None, refl, sym, ◌∙◌, ap, arith, ⊎_elim}
use Rattle.std.specs.Prelude.{nat_lt, nat_eq, slice_index_or}
use Rattle.std.specs.Borrow.{Bor}
use Rattle.std.specs.List.Sorted.{IsNonDecreasingBy, IsPartitionPoint, IsPartitionedBy, IsSortedBy}
use Rattle.std.specs.declared.cmp.Ordering.{Ordering}
use Rattle.std.specs.declared.cmp.Ordering.TheVariants.{Less, Equal, Greater}
use Rattle.std.specs.Ordering.{is_eq, is_lt, nat_cmp, ordering_index}
use Rattle.std.specs.Cmp.Lexicographic.{nat_list_cmp_total, slice_cmp}
use Rattle.std.specs.Str.{bytes_eq, str_eq_ignore_ascii_case, str_to_ascii_lowercase}
use Rattle.std.proofs.lemmas.Bool.{cases_lt}
use Rattle.std.proofs.lemmas.Bool.Decides.{nat_tests}
use Rattle.std.proofs.lemmas.List.{drop_all, drop_more}
use Rattle.std.proofs.lemmas.List.Sorted.{searchable_from_sorted}
use Rattle.enc_front.specs.declared.encoding.Encoding.{Encoding}
use Rattle.enc_front.specs.Encoding.{find_label, labels, label_rows}
use Rattle.enc_front.specs.LabelOrder.{label_order, rows_rise}

abbrev pub Rows : Type 0
Rows = List (Bor (List ℕ) × Encoding)

-- the table is in order
pub labels_rise : rows_rise labels ≡ true
unfolding labels
labels_rise = refl

and_parts : (x y : Bool) → (x && y) ≡ true → (x ≡ true) × (y ≡ true)
and_parts true y h = (refl, h)
and_parts false y h = cc

not_true : (b : Bool) → not b ≡ true → b ≡ false
not_true true h = cc
not_true false h = refl

sorted_rows : (rows : Rows) → rows_rise (label_rows rows) ≡ true
    → IsSortedBy (λ a b. is_lt (label_order a.0.now b.0.now)) rows
sorted_rows [] h k d low high = absurd (omega arith)
sorted_rows (row ∷ []) h k d low high = absurd (omega arith)
sorted_rows (row ∷ next ∷ rows) h zero d low high =
    not_true _ (and_parts _ _ h).0
sorted_rows (row ∷ next ∷ rows) h (suc k) d low high =
    let e : suc k + 1 ≡ suc (k + 1) = omega arith in
    rw e (sorted_rows (next ∷ rows) (and_parts _ _ h).1 k d (omega arith) (omega arith))

pub rising : (rows : Rows) (label : List ℕ) → rows_rise (label_rows rows) ≡ true
    → IsNonDecreasingBy (λ row. ordering_index (label_order row.0.now label)) rows
rising rows label h = searchable_from_sorted nat_list_cmp_total
    (λ row. str_to_ascii_lowercase row.0.now) rows (str_to_ascii_lowercase label)
    (sorted_rows rows h)

-- by how two labels compare
lt_index : (o : Ordering) → is_lt o ≡ true → ordering_index o ≡ 0
lt_index Less h = refl
lt_index Equal h = cc
lt_index Greater h = cc

index_lt : (o : Ordering) → ordering_index o ≤ 0 → is_lt o ≡ true
index_lt Less h = refl
index_lt Equal h = absurd (omega arith)
index_lt Greater h = absurd (omega arith)

lt_other : (o : Ordering) → is_lt o ≡ true → is_eq o ≡ false
lt_other Less h = refl
lt_other Equal h = cc
lt_other Greater h = cc

past_other : (o p : Ordering) → is_lt o ≡ false → is_eq o ≡ false
    → ordering_index o ≤ ordering_index p → is_eq p ≡ false
past_other Less p h k le = cc
past_other Equal p h k le = cc
past_other Greater Less h k le = absurd (omega arith)
past_other Greater Equal h k le = absurd (omega arith)
past_other Greater Greater h k le = refl

bytes_same : (a b : List ℕ) → bytes_eq a b ≡ is_eq (slice_cmp nat_cmp a b)
bytes_same [] [] = refl
bytes_same [] (y ∷ ys) = refl
bytes_same (x ∷ xs) [] = refl
bytes_same (x ∷ xs) (y ∷ ys) = by_tests (nat_lt x y) (nat_eq x y) refl refl (bytes_same xs ys)
  where
    by_tests : (s t : Bool) → nat_lt x y ≡ s → nat_eq x y ≡ t
        → bytes_eq xs ys ≡ is_eq (slice_cmp nat_cmp xs ys)
        → bytes_eq (x ∷ xs) (y ∷ ys) ≡ is_eq (slice_cmp nat_cmp (x ∷ xs) (y ∷ ys))
    by_tests true true e f rest =
        absurd (let below : nat_eq x y ≡ false = grind (arith, nat_tests) in cc)
    by_tests true false e f rest = rw (e, f) refl
    by_tests false true e f rest = rw (e, f) rest
    by_tests false false e f rest = rw (e, f) refl

other : (a b : List ℕ) → is_eq (label_order a b) ≡ false → str_eq_ignore_ascii_case a b ≡ false
other a b h = bytes_same (str_to_ascii_lowercase a) (str_to_ascii_lowercase b) ∙ h

pub partitioned : (rows : Rows) (label : List ℕ) → rows_rise (label_rows rows) ≡ true
    → IsPartitionedBy (λ row. is_lt (label_order row.0.now label)) rows
partitioned rows label h i j d le within lt =
    let up = rising rows label h i j d le within in
    let first = lt_index (label_order (slice_index_or rows j d).0.now label) lt in
    index_lt (label_order (slice_index_or rows i d).0.now label) (omega (arith, up, first))

-- the first row that a label is, by the rows before it
find_none : (rows : Rows) (label : List ℕ)
    → ((k : ℕ) (d : Bor (List ℕ) × Encoding) → k < length rows
    → str_eq_ignore_ascii_case (slice_index_or rows k d).0.now label ≡ false)
    → find_label (label_rows rows) label ≡ None
find_none [] label h = refl
find_none (row ∷ rows) label h =
    let first : str_eq_ignore_ascii_case row.0.now label ≡ false = h 0 row (omega arith) in
    rw first (find_none rows label (λ k d within. h (suc k) d (omega arith)))

find_at : (rows : Rows) (label : List ℕ) (i : ℕ) (d : Bor (List ℕ) × Encoding) → i < length rows
    → ((k : ℕ) (e : Bor (List ℕ) × Encoding) → k < i
    → str_eq_ignore_ascii_case (slice_index_or rows k e).0.now label ≡ false)
    → str_eq_ignore_ascii_case (slice_index_or rows i d).0.now label ≡ true
    → find_label (label_rows rows) label ≡ Some (slice_index_or rows i d).1
find_at [] label i d within before here = absurd (omega arith)
find_at (row ∷ rows) label zero d within before here = rw here refl
find_at (row ∷ rows) label (suc i) d within before here =
    let first : str_eq_ignore_ascii_case row.0.now label ≡ false = before 0 row (omega arith) in
    rw first (find_at rows label i d (omega arith) (λ k e less. before (suc k) e (omega arith))
    here)

abbrev pub IsPlaceOf : Rows → List ℕ → ℕ → Type 0
IsPlaceOf rows label i = IsPartitionPoint (λ row. is_lt (label_order row.0.now label) ≡ true)
    (λ row. is_lt (label_order row.0.now label) ≡ false) rows i

before_other : (rows : Rows) (label : List ℕ) (i k : ℕ) (d : Bor (List ℕ) × Encoding)
    → IsPlaceOf rows label i → k < i
    → str_eq_ignore_ascii_case (slice_index_or rows k d).0.now label ≡ false
before_other rows label i k d point less =
    other (slice_index_or rows k d).0.now label
    (lt_other (label_order (slice_index_or rows k d).0.now label)
    (point.0 k d (omega arith) less))

pub searched_at : (rows : Rows) (label : List ℕ) (i : ℕ) (d : Bor (List ℕ) × Encoding)
    → IsPlaceOf rows label i → i < length rows
    → str_eq_ignore_ascii_case (slice_index_or rows i d).0.now label ≡ true
    → find_label (label_rows rows) label ≡ Some (slice_index_or rows i d).1
searched_at rows label i d point within here =
    find_at rows label i d within (λ k e less. before_other rows label i k e point less) here

pub searched_past : (rows : Rows) (label : List ℕ) (i : ℕ) → IsPlaceOf rows label i
    → length rows ≤ i → find_label (label_rows rows) label ≡ None
searched_past rows label i point past =
    find_none rows label (λ k d within. before_other rows label i k d point (omega arith))

pub searched_other : (rows : Rows) (label : List ℕ) (i : ℕ) (d : Bor (List ℕ) × Encoding)
    → rows_rise (label_rows rows) ≡ true → IsPlaceOf rows label i → i < length rows
    → str_eq_ignore_ascii_case (slice_index_or rows i d).0.now label ≡ false
    → find_label (label_rows rows) label ≡ None
searched_other rows label i d rise point within here =
    find_none rows label (λ k e in_rows.
    ⊎_elim {C = str_eq_ignore_ascii_case (slice_index_or rows k e).0.now label ≡ false}
    (λ less. before_other rows label i k e point less)
    (λ behind. behind_other k e in_rows behind)
    (cases_lt k i))
  where
    behind_other : (k : ℕ) (e : Bor (List ℕ) × Encoding) → k < length rows → i ≤ k
        → str_eq_ignore_ascii_case (slice_index_or rows k e).0.now label ≡ false
    behind_other k e in_rows behind =
        let up = rising rows label rise i k d behind in_rows in
        let not_same : is_eq (label_order (slice_index_or rows i d).0.now label) ≡ false =
        sym (bytes_same (str_to_ascii_lowercase (slice_index_or rows i d).0.now)
        (str_to_ascii_lowercase label)) ∙ here in
        let at_d = past_other (label_order (slice_index_or rows i d).0.now label)
        (label_order (slice_index_or rows k d).0.now label)
        (point.1 i d (omega arith) within) not_same up in
        let same : slice_index_or rows k d
        ≡ slice_index_or rows k e = same_index rows k d e in_rows in
        ap (λ row. str_eq_ignore_ascii_case row.0.now label) (sym same)
        ∙ other (slice_index_or rows k d).0.now label at_d
      where
        same_index : (rows : Rows) (k : ℕ) (d e : Bor (List ℕ) × Encoding) → k < length rows
            → slice_index_or rows k d ≡ slice_index_or rows k e
        same_index [] k d e h = absurd (omega arith)
        same_index (row ∷ rows) zero d e h = refl
        same_index (row ∷ rows) (suc k) d e h = same_index rows k d e (omega arith)

-- where one of two labels ends
pub second_ends : (a b : List ℕ) (i d : ℕ) → i < length a → length b ≤ i
    → label_order (drop i a) (drop i b) ≡ label_order a b → false ≡ is_lt (label_order a b)
second_ends a b i d in_a past rest =
    sym (ap is_lt (sym rest) ∙ rw (drop_more a i d in_a, drop_all i b past) refl)

pub first_ends : (a b : List ℕ) (i : ℕ) → i ≡ length a → i ≤ length b
    → label_order (drop i a) (drop i b) ≡ label_order a b
    → nat_lt (length a) (length b) ≡ is_lt (label_order a b)
first_ends a b i end within rest = by_test (nat_lt (length a) (length b)) refl
  where
    by_test : (t : Bool) → nat_lt (length a) (length b) ≡ t → t ≡ is_lt (label_order a b)
    by_test true e =
        let more : i < length b = grind (arith, nat_tests) in
        sym (ap is_lt (sym rest) ∙ rw (drop_all i a (omega arith), drop_more b i 0 more) refl)
    by_test false e =
        let past : length b ≤ i = grind (arith, nat_tests) in
        sym (ap is_lt (sym rest) ∙ rw (drop_all i a (omega arith), drop_all i b past) refl)
