-- The scalars of text in UTF-8 and in UTF-16, and the places between them.
-- Unicode Standard, section 3.9 (surrogate pairs); Infra Standard, section 4.6 (a surrogate outside
-- a pair becomes U+FFFD).
use Rattle.std.specs.Prelude.{◌≡◌, ℕ, ◌-◌, Bool, not, ◌&&◌, List, [], ◌∷◌, ◌++◌, length, take}
use Rattle.std.specs.Prelude.{slice_index, encode_utf8, if◌then◌else◌}
use Rattle.std.specs.Str.{chars, is_utf8}
use Rattle.enc_handles.specs.Reading.{Reading, left}
use Rattle.enc_handles.specs.Utf16.{is_lead, is_trail, is_surrogate, pair_scalar}

-- the scalar of a code unit in no pair: U+FFFD for a surrogate
abbrev pub lone_scalar : ℕ → ℕ
lone_scalar unit = if is_surrogate unit then 0xFFFD else unit

-- the scalars of code units: a lead and the trail behind it are one, a surrogate in no pair is
-- U+FFFD
unfoldable pub scalars16 : List ℕ → List ℕ
scalars16 [] = []
scalars16 (unit ∷ []) = lone_scalar unit ∷ []
scalars16 (unit ∷ next ∷ units) =
    if is_lead unit && is_trail next then pair_scalar unit next ∷ scalars16 units
    else lone_scalar unit ∷ scalars16 (next ∷ units)

-- how many code units the first scalar has: two for a pair, else one
abbrev pub first_len16 : List ℕ → ℕ
first_len16 units = if is_lead (slice_index units 0) && is_trail (slice_index units 1) then 2 else 1

-- no pair stands across the place: a lead before it and the trail behind it
abbrev pub is_seam16 : List ℕ → ℕ → Bool
is_seam16 units n = not (is_lead (slice_index units (n - 1)) && is_trail (slice_index units n))

-- how many bytes the first scalar of UTF-8 has
abbrev pub first_len8 : List ℕ → ℕ
first_len8 bytes = length (encode_utf8 (slice_index (chars bytes) 0))

-- no scalar of UTF-8 stands across the place: what is before it is UTF-8
abbrev pub is_seam8 : List ℕ → ℕ → Bool
is_seam8 bytes n = is_utf8 (take n bytes)

-- from one place of a text to another exactly these scalars were read, and what is left are the
-- others
pub record ReadsScalars (scalars_of : List ℕ → List ℕ) (old new : Reading)
    (scalars : List ℕ) : Type 0 where
  pub same_items : new.items ≡ old.items
  pub read : scalars_of (take new.place new.items) ≡ scalars_of (take old.place old.items)
      ++ scalars
  pub rest : scalars_of (left old) ≡ scalars ++ scalars_of (left new)

-- the same between two places of one list
abbrev pub ReadsBetween : (List ℕ → List ℕ) → List ℕ → ℕ → ℕ → List ℕ → Type 0
ReadsBetween scalars_of items from to scalars =
    ReadsScalars scalars_of (record { items = items; place = from })
    (record { items = items; place = to }) scalars
