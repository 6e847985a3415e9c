-- Keys of scalars and places: one number for both, in the order of the scalars.
use Rattle.std.specs.Prelude.{◌≡◌, ℕ, ◌+◌, ◌*◌, ◌<◌, ◌==◌, Bool, List, map}
use Rattle.std.specs.List.{list_any}
use Rattle.enc_drivers.specs.Lookup.{Places, holds}

abbrev pub key_of : ℕ → ℕ → ℕ
key_of scalar place = scalar * 0x100000000 + place

-- the keys of pairs of a place and a scalar
abbrev pub pair_keys : List (ℕ × ℕ) → List ℕ
pair_keys pairs = map (λ pair. key_of pair.1 pair.0) pairs

abbrev pub has_key : List ℕ → ℕ → Bool
has_key keys key = list_any (λ k. k == key) keys

-- there is a key for each scalar and each place that holds it, and none else
abbrev pub FindsPlaces : List ℕ → Places → Type 0
FindsPlaces keys places = (scalar place : ℕ) → place < 0x100000000
    → has_key keys (key_of scalar place) ≡ holds places scalar place
