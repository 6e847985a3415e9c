-- A finite map from names to bytes.
use Rattle.std.specs.Prelude.{◌≡◌, ℕ, ◌<◌, ◌≤◌, nat_eq, if◌then◌else◌, Option, Some, None, List, []}
use Rattle.std.specs.Prelude.{◌∷◌, map, length, string_bytes, String, Vec}
use Rattle.std.specs.declared.alloc.Global.{Global}
use Rattle.std.specs.Cmp.Lexicographic.{pointwise}

-- a name and the bytes of its file
abbrev pub entry_of : String Global × Vec ℕ Global → List ℕ × List ℕ
entry_of entry = (string_bytes entry.0, entry.1.items)

abbrev pub files_of : List (String Global × Vec ℕ Global) → List (List ℕ × List ℕ)
files_of entries = map entry_of entries

-- the bytes of the file of a name: the first entry of the name counts
abbrev pub file : List (List ℕ × List ℕ) → List ℕ → Option (List ℕ)
file [] name = None
file (entry ∷ rest) name = if pointwise nat_eq entry.0 name then Some entry.1 else file rest name

-- at most 4,194,304 bytes
abbrev pub IsShortFile : List ℕ → Type 0
IsShortFile bytes = length bytes ≤ 4194304

-- a file that is there, with more than 4,194,304 bytes
abbrev pub IsLongFile : Option (List ℕ) → Type 0
IsLongFile found = (bytes : List ℕ) × (found ≡ Some bytes) × (4194304 < length bytes)
