-- The entry at a place of an index.
use Rattle.std.proofs.Common.{◌≡◌, ℕ, ◌+◌, ◌-◌, ◌<◌, ◌≤◌, Bool, true, false, List, length, get_or, set, inl, inr, Option, Some, None, refl, ap, sym, ◌∙◌, arith, ltb-true, lt-ltb, le-ltb}
use Rattle.std.specs.Prelude.{slice_get, slice_index_or, nat_lt}
use Rattle.std.specs.Option.{option_and_then, option_map, option_map_or}
use Rattle.std.proofs.lemmas.Option.{slice_get_read, slice_get_past, slice_get-map}
use Rattle.std.proofs.lemmas.Bool.{cases_eq}
use Rattle.std.proofs.lemmas.List.{get_or-set_same, get_or-set_other}
use Rattle.enc_drivers.specs.Lookup.{IsEntryOf, AreByteEntries}
use Rattle.enc_front.specs.Cells.{scalar_in, cell_places, cell_entry, cell_entries, byte_entry, HasByteEntries}
use Rattle.enc_front.specs.Scalars.{is_scalar}
use Rattle.enc_front.proofs.IndexLemmas.{scalar_in-is}

of_cell : (cell number : ℕ) → cell_entry cell ≡ number → 0 < number → IsEntryOf (scalar_in cell) number
of_cell cell number e some = by_tests (is_scalar cell) refl (nat_lt cell 0x1_0000) refl
  where
    by_tests : (t : Bool) → is_scalar cell ≡ t → (u : Bool) → nat_lt cell 0x1_0000 ≡ u → IsEntryOf (scalar_in cell) number
    by_tests true h true k = record { code = cell; is = scalar_in-is cell h; small = ltb-true cell 0x1_0000 k; entry = sym (rw (h, k) at e) }
    by_tests true h false k =
        let none : 0 ≡ number = rw (h, k) at e in
        absurd (omega arith)
    by_tests false h u k =
        let none : 0 ≡ number = rw h at e in
        absurd (omega arith)

of_found : (o : Option ℕ) (number : ℕ) → option_map cell_entry o ≡ Some number → 0 < number → IsEntryOf (option_and_then scalar_in o) number
of_found None number e some = cc
of_found (Some cell) number e some =
    let here : cell_entry cell ≡ number = cc in
    of_cell cell number here some

pub entry_found : (cells entries : List ℕ) (place number : ℕ) → entries ≡ cell_entries cells → place < length entries → number ≡ slice_index_or entries place number → 0 < number
    → IsEntryOf (cell_places cells place) number
unfolding cell_places
entry_found cells entries place number are within is some =
    of_found (slice_get cells place) number
    (sym (slice_get-map cell_entry cells place) ∙ (ap (λ l. slice_get l place) (sym are) ∙ slice_get_read entries (length entries) place number refl within is)) some

-- the entry of a byte
byte_found : (o : Option ℕ) (number : ℕ) → number ≡ option_map_or cell_entry o 0 → 0 < number → IsEntryOf (option_and_then scalar_in o) number
byte_found None number e some = absurd (omega arith)
byte_found (Some cell) number e some = of_cell cell number (sym e) some

pub bytes_found : (cells table : List ℕ) → HasByteEntries cells table → AreByteEntries (cell_places cells) table
unfolding cell_places
bytes_found cells table has byte below some = record {
  ascii = λ low.
      let test : nat_lt byte 0x80 ≡ true = lt-ltb byte 0x80 low in
      has byte below ∙ rw test refl;
  other = λ high.
      let test : nat_lt byte 0x80 ≡ false = le-ltb byte 0x80 high in
      byte_found (slice_get cells (byte - 0x80)) (get_or table byte 0) (has byte below ∙ rw test refl) some;
}

pub byte_some : (items cells : List ℕ) (byte cell number : ℕ) → items ≡ cells → 0x80 ≤ byte → byte - 0x80 < length cells → cell ≡ slice_index_or cells (byte - 0x80) cell
    → number ≡ cell_entry cell → number ≡ byte_entry items byte
byte_some items cells byte cell number same high within is entry =
    let test : nat_lt byte 0x80 ≡ false = le-ltb byte 0x80 high in
    let got : slice_get items (byte - 0x80) ≡ Some cell = ap (λ l. slice_get l (byte - 0x80)) same ∙ slice_get_read cells (length cells) (byte - 0x80) cell refl within is in
    entry ∙ rw (test, got) refl

pub byte_none : (items cells : List ℕ) (byte : ℕ) → items ≡ cells → 0x80 ≤ byte → length cells ≤ byte - 0x80 → 0 ≡ byte_entry items byte
byte_none items cells byte same high past =
    let test : nat_lt byte 0x80 ≡ false = le-ltb byte 0x80 high in
    let got : slice_get items (byte - 0x80) ≡ None = ap (λ l. slice_get l (byte - 0x80)) same ∙ slice_get_past cells (byte - 0x80) past in
    rw (test, got) refl

pub one_byte_more : (f : ℕ → ℕ) (xs : List ℕ) (i x : ℕ) → i < length xs → ((other : ℕ) → other < i → get_or xs other 0 ≡ f other) → x ≡ f i
    → (other : ℕ) → other < i + 1 → get_or (set xs i x) other 0 ≡ f other
one_byte_more f xs i x inside before here other below =
    elim (cases_eq other i) [
      | inl same ↦ rw (same, get_or-set_same xs i x 0 inside) here
      | inr differs ↦ rw (get_or-set_other xs i other x 0 differs) (before other (omega arith))
    ]
