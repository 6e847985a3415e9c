-- Indexes of scalars by place (Encoding Standard, section 5).
use Rattle.std.specs.Prelude.{◌≡◌, ℕ, ◌-◌, ◌<◌, ◌≤◌, ◌==◌, Bool, false, find, List, Option, Some}
use Rattle.std.specs.Prelude.{slice_index}
use Rattle.std.specs.List.{range_with_len}
use Rattle.std.specs.Option.{ForSome, option_map_or}
use Rattle.std.specs.Char.{IsScalar}
use Rattle.enc_handles.specs.Entries.{entry_of}

-- the scalars of an index by place, none where the index has no such place
abbrev pub Places : Type 0
Places = ℕ → Option ℕ

-- what an index finds is a scalar
abbrev pub FindsScalars : Places → Type 0
FindsScalars places = (place : ℕ) → ForSome (places place) (λ c. IsScalar c)

-- no scalar of the index is above U+FFFF
abbrev pub HasNoAstral : Places → Type 0
HasNoAstral places = (place : ℕ) → ForSome (places place) (λ c. c < 0x10000)

-- the index has the scalar at the place
abbrev pub holds : Places → ℕ → ℕ → Bool
holds places scalar place = option_map_or (λ c. c == scalar) (places place) false

-- the least place under `below` that holds the scalar ("index pointer", section 5, of the places
-- that an encoder looks at)
unfoldable pub least_place : Places → ℕ → ℕ → Option ℕ
least_place places scalar below = find (holds places scalar) (range_with_len 0 below)

-- there is a scalar up to U+FFFF, and the number is its entry
pub record IsEntryOf (scalar : Option ℕ) (number : ℕ) : Type 0 where
  pub code : ℕ
  pub is : scalar ≡ Some code
  pub small : code < 0x1_0000
  pub entry : number ≡ entry_of code

-- the number is the entry of a byte's scalar: ASCII itself, and the others by their places
pub record IsByteEntry (places : Places) (byte number : ℕ) : Type 0 where
  pub ascii : byte < 0x80 → number ≡ entry_of byte
  pub other : 0x80 ≤ byte → IsEntryOf (places (byte - 0x80)) number

-- of each byte the entry of its scalar, or 0
abbrev pub AreByteEntries : Places → List ℕ → Type 0
AreByteEntries places numbers = (byte : ℕ) → byte < 0x100 → 0 < slice_index numbers byte
    → IsByteEntry places byte (slice_index numbers byte)
