-- A scalar's bytes in a field of four, with zeros behind them.
use Rattle.std.specs.Prelude.{◌≡◌, ℕ, ◌≤◌, List, [], ◌∷◌, ◌++◌, length, take}
use Rattle.enc_drivers.specs.declared.encode.Encoded.TheInside.{Inside}

-- one to four bytes at the front, and zeros
pub record IsPadded (e : Inside) : Type 0 where
  pub some : 1 ≤ e.len
  pub four : e.len ≤ 4
  pub length_is : length (take e.len e.bytes) ≡ e.len
  pub zeros : take 4 (take e.len e.bytes ++ (0 ∷ 0 ∷ 0 ∷ [])) ≡ e.bytes

-- the fields of so many bytes
abbrev pub padded : List ℕ → Inside
padded bytes = record { bytes = take 4 (bytes ++ (0 ∷ 0 ∷ 0 ∷ [])); len = length bytes }
