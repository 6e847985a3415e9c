-- What encoders write of scalars (Encoding Standard, section 4.1, encoders).
use Rattle.std.specs.Prelude.{◌≡◌, ℕ, ◌<◌, ◌≤◌, List, [], ◌∷◌, ◌++◌, length, Option, Some, None}
use Rattle.std.specs.Prelude.{IsSome, unwrap_or}
use Rattle.std.specs.Option.{ForSome}
use Rattle.std.specs.List.{All, flat_map}
use Rattle.enc_drivers.specs.declared.unit.Mode.{Mode}
use Rattle.enc_drivers.specs.Units.{Code, scalar_at}

-- the bytes of each scalar, none where it has none
abbrev pub BytesOf : Type 0
BytesOf = ℕ → Option (List ℕ)

-- so many bytes, from one to `max`
pub record IsFromOneTo (max : ℕ) (bytes : List ℕ) : Type 0 where
  pub some : 1 ≤ length bytes
  pub few : length bytes ≤ max

-- what an encoder keeps: a scalar that has bytes has one to `max`, which are four at most
pub record IsEncoder (max : ℕ) (bytes_of : BytesOf) : Type 0 where
  pub four : max ≤ 4
  pub each : (scalar : ℕ) → ForSome (bytes_of scalar) (λ bytes. IsFromOneTo max bytes)

-- each ASCII scalar has itself as its one byte
abbrev pub IsAsciiCompatible : BytesOf → Type 0
IsAsciiCompatible bytes_of = (scalar : ℕ) → scalar < 0x80 → bytes_of scalar ≡ Some (scalar ∷ [])

-- no scalar above U+FFFF has bytes
abbrev pub MapsNoAstral : BytesOf → Type 0
MapsNoAstral bytes_of = (scalar : ℕ) → 0x10000 ≤ scalar → bytes_of scalar ≡ None

-- the bytes of this scalar are read as it, whatever follows
abbrev pub ReadsBack : Code → BytesOf → ℕ → Type 0
ReadsBack unit bytes_of scalar =
    (mode : Mode) (bytes rest : List ℕ) → bytes_of scalar ≡ Some bytes
    → unit mode (bytes ++ rest) ≡ scalar_at mode scalar (length bytes)

-- each of these scalars has bytes
abbrev pub HaveBytes : BytesOf → List ℕ → Type 0
HaveBytes bytes_of scalars = All (λ c. IsSome (bytes_of c)) scalars

-- the bytes of scalars, one after another
abbrev pub encoded : BytesOf → List ℕ → List ℕ
encoded bytes_of scalars = flat_map (λ c. unwrap_or (bytes_of c) []) scalars
