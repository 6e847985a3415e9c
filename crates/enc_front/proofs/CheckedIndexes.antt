-- What the indexes of tables find: scalars, and none above U+FFFF but in Big5's and the ranges.
use Rattle.std.proofs.Common.{◌≡◌, Bool, true, false, List, [], ◌∷◌, None, refl}
use Rattle.std.specs.Prelude.{map}
use Rattle.std.specs.Option.{option_map_or}
use Rattle.enc_drivers.specs.Lookup.{Places, FindsScalars, HasNoAstral}
use Rattle.enc_front.specs.declared.index.AnyIndex.{AnyIndex}
use Rattle.enc_front.specs.declared.index.AnyIndex.TheVariants.{OfCells, OfRanges}
use Rattle.enc_front.specs.declared.tables.Entry.{Entry}
use Rattle.enc_front.specs.declared.tables.IndexKind.{IndexKind}
use Rattle.enc_front.specs.declared.tables.IndexKind.TheVariants.{Big5, EucKr, Jis0208, Jis0212}
use Rattle.enc_front.specs.declared.tables.IndexKind.TheVariants.{Gb18030, Gb18030Ranges, Single}
use Rattle.enc_front.specs.declared.tables.Tables.{Tables}
use Rattle.enc_front.specs.Index.{any_places}
use Rattle.enc_front.specs.Indexes.{AreChecked, Indexes, indexes_of, of_entry, places_in}
use Rattle.enc_front.specs.Kinds.{is_bmp, same_kind}
use Rattle.enc_front.specs.Lemmas.Places.{cells_find_scalars}

any_finds_scalars : (index : AnyIndex) → FindsScalars (any_places index)
any_finds_scalars (OfCells index) = cells_find_scalars index.cells.cells.items
any_finds_scalars (OfRanges ranges) = ranges.sound

-- of the same kind as one without scalars above U+FFFF
same_bmp : (a b : IndexKind) → same_kind a b ≡ true → is_bmp b ≡ true → is_bmp a ≡ true
same_bmp Big5 Big5 h k = cc
same_bmp Big5 EucKr h k = cc
same_bmp Big5 Jis0208 h k = cc
same_bmp Big5 Jis0212 h k = cc
same_bmp Big5 Gb18030 h k = cc
same_bmp Big5 Gb18030Ranges h k = cc
same_bmp Big5 (Single name) h k = cc
same_bmp EucKr b h k = refl
same_bmp Jis0208 b h k = refl
same_bmp Jis0212 b h k = refl
same_bmp Gb18030 b h k = refl
same_bmp Gb18030Ranges Big5 h k = cc
same_bmp Gb18030Ranges EucKr h k = cc
same_bmp Gb18030Ranges Jis0208 h k = cc
same_bmp Gb18030Ranges Jis0212 h k = cc
same_bmp Gb18030Ranges Gb18030 h k = cc
same_bmp Gb18030Ranges Gb18030Ranges h k = cc
same_bmp Gb18030Ranges (Single name) h k = cc
same_bmp (Single name) b h k = refl

none_is_scalar : FindsScalars (λ place. None)
none_is_scalar place c e = cc

none_is_astral : HasNoAstral (λ place. None)
none_is_astral place c e = cc

-- what holds of the first entry, or of those behind it
by_first : (P : Places → Type 0) (first : IndexKind × Places) (indexes : Indexes) (kind : IndexKind)
    → (same_kind first.0 kind ≡ true → P first.1) → P (places_in indexes kind)
    → P (places_in (first ∷ indexes) kind)
by_first P first indexes kind here behind = by_test (same_kind first.0 kind) refl
  where
    by_test : (test : Bool) → same_kind first.0 kind ≡ test → P (places_in (first ∷ indexes) kind)
    by_test true h = rw h (here h)
    by_test false h = rw h behind

finds_scalars : (entries : List Entry) (kind : IndexKind)
    → FindsScalars (places_in (map of_entry entries) kind)
finds_scalars [] kind = none_is_scalar
finds_scalars (entry ∷ entries) kind =
    by_first (λ places. FindsScalars places) (of_entry entry) (map of_entry entries) kind
    (λ h. any_finds_scalars entry.index) (finds_scalars entries kind)

has_no_astral : (entries : List Entry) (kind : IndexKind) → is_bmp kind ≡ true
    → HasNoAstral (places_in (map of_entry entries) kind)
has_no_astral [] kind b = none_is_astral
has_no_astral (entry ∷ entries) kind b =
    by_first (λ places. HasNoAstral places) (of_entry entry) (map of_entry entries) kind
    (λ h. entry.bmp (same_bmp entry.kind kind h b)) (has_no_astral entries kind b)

-- for the indexes that any tables hold
pub checked_tables : (tables : Tables) → AreChecked (indexes_of tables)
checked_tables tables =
    let entries = option_map_or (λ entries. entries.items) tables.entries [] in
    record { scalars = finds_scalars entries; bmp = has_no_astral entries }
