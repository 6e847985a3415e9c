-- What a source has lost and a sink has taken.
use Rattle.std.specs.Prelude.{◌≡◌, ℕ, ◌+◌, ◌≤◌, Option, List, ◌++◌, length}
use Rattle.std.specs.Io.{StartsWith}
use Rattle.std.specs.Io.KnownBytes.{Appends, Consumes}
use Rattle.enc_io.specs.Faults.{Rose}
use Rattle.unwrap.specs.declared.status.ReadError.{ReadError}
use Rattle.unwrap.specs.declared.status.ReadError.TheVariants.{ReadFault, TooMuch, Memory}

-- a source gave exactly n bytes, which it lost
abbrev pub Loses : Option (List ℕ) → Option (List ℕ) → ℕ → Type 0
Loses before after n = (given : List ℕ) × Consumes before after given × (length given ≡ n)

-- a source gave some bytes, at most n, which it lost
abbrev pub LosesAtMost : Option (List ℕ) → Option (List ℕ) → ℕ → Type 0
LosesAtMost before after n = (given : List ℕ) × Consumes before after given × (length given ≤ n)

-- a sink took a prefix of the bytes
abbrev pub AppendsPrefix : Option (List ℕ) → Option (List ℕ) → List ℕ → Type 0
AppendsPrefix before after bytes = (front : List ℕ) × StartsWith bytes front
    × Appends before after front

-- why a source's bytes are not all there, and what it then lost
abbrev pub IsReadError : Option (List ℕ) → Option (List ℕ) → ℕ → ℕ → ℕ → ReadError → Type 0
IsReadError left left' faults faults' limit ReadFault = Rose faults faults'
    × LosesAtMost left left' limit
IsReadError left left' faults faults' limit TooMuch = (faults' ≡ faults)
    × Loses left left' (limit + 1)
IsReadError left left' faults faults' limit Memory = (faults' ≡ faults)
    × LosesAtMost left left' limit

-- n bytes that a source gave were appended
abbrev pub AppendsRead : Option (List ℕ) → Option (List ℕ) → List ℕ → List ℕ → ℕ → Type 0
AppendsRead left left' bytes bytes' n = (given : List ℕ) × Consumes left left' given
    × (bytes' ≡ bytes ++ given) × (length given ≡ n)
