-- Entries: the UTF-8 of a scalar up to U+FFFF and how many bytes that are, in one number.
use Rattle.std.specs.Prelude.{◌≡◌, ℕ, ◌+◌, ◌<◌, ◌≤◌, List, length, map}
use Rattle.std.specs.Simd.Lanes.{Each1}
use Rattle.enc_handles.specs.Utf8.{text_of}
use Rattle.enc_strides.specs.Utf8.{entry}
use Rattle.enc_handles.specs.UnitSlice.{Puts}
use Rattle.enc_handles.specs.Writing.{Writing, after_writing}

-- the entry of a scalar
abbrev pub entry_of : ℕ → ℕ
entry_of scalar = entry scalar

-- where the number is the entry of a scalar, its text was written behind place `at`, and `end` is
-- the place behind it
pub record PutsEntry (form : ℕ → List ℕ) (old new : List ℕ) (at end number : ℕ) : Type 0 where
  pub place : (scalar : ℕ) → scalar < 0x1_0000 → number ≡ entry_of scalar
      → end ≡ at + length (form scalar)
  pub text : (scalar : ℕ) → scalar < 0x1_0000 → number ≡ entry_of scalar
      → Puts old new at (form scalar)
  pub fits : end ≤ length old
  pub same_length : length new ≡ length old

-- the same of a destination
abbrev pub WritesEntry : (ℕ → List ℕ) → Writing → Writing → ℕ → Type 0
WritesEntry form before after number = (scalar : ℕ) → scalar < 0x1_0000 → number ≡ entry_of scalar →
    (after ≡ after_writing before (form scalar)) × (length (form scalar) ≤ before.free)

-- the numbers are the entries of these scalars
pub record AreEntries (numbers scalars : List ℕ) : Type 0 where
  pub small : Each1 (λ scalar. scalar < 0x1_0000) scalars
  pub entries : numbers ≡ map entry_of scalars

-- the same as `PutsEntry` of the entries of a row of scalars
pub record PutsEntries (form : ℕ → List ℕ) (old new : List ℕ) (at end : ℕ)
    (numbers : List ℕ) : Type 0 where
  pub place : (scalars : List ℕ) → AreEntries numbers scalars
      → end ≡ at + length (text_of form scalars)
  pub text : (scalars : List ℕ) → AreEntries numbers scalars
      → Puts old new at (text_of form scalars)
  pub fits : end ≤ length old
  pub same_length : length new ≡ length old

abbrev pub WritesEntries : (ℕ → List ℕ) → Writing → Writing → List ℕ → Type 0
WritesEntries form before after numbers = (scalars : List ℕ) → AreEntries numbers scalars →
    (after ≡ after_writing before (text_of form scalars))
    × (length (text_of form scalars) ≤ before.free)
