-- The units of a code, and the text that they stand for.
use Rattle.std.specs.Prelude.{◌≡◌, ℕ, zero, suc, ◌*◌, ◌<◌, ◌≤◌, ⊤, List, [], ◌∷◌, ◌++◌, length}
use Rattle.std.specs.Prelude.{take, drop, encode_utf8, All}
use Rattle.std.specs.List.{flat_map}
use Rattle.std.specs.Char.{IsScalar}
use Rattle.enc_drivers.specs.declared.unit.Item.{Item}
use Rattle.enc_drivers.specs.declared.unit.Item.TheVariants.{One, Two, Malformed, Silent}
use Rattle.enc_drivers.specs.declared.unit.Mode.{Mode}

-- what stands at the front of a nonempty rest of bytes: an item, how many bytes it has, and the
-- mode of what follows
pub record UnitAt : Type 0 where
  pub item : Item
  pub len : ℕ
  pub next : Mode

-- how a code finds the unit at the front of a rest, in a mode
abbrev pub Code : Type 0
Code = Mode → List ℕ → UnitAt

-- a scalar of n bytes, and n malformed bytes, that leave the mode as it is
abbrev pub scalar_at : Mode → ℕ → ℕ → UnitAt
scalar_at mode scalar n = record { item = One scalar; len = n; next = mode }

abbrev pub malformed_at : Mode → ℕ → UnitAt
malformed_at mode n = record { item = Malformed; len = n; next = mode }

-- at most n units from the front, each with its length
unfoldable pub first_units : Code → ℕ → Mode → List ℕ → List (Item × ℕ)
first_units unit zero mode bytes = []
first_units unit (suc n) mode [] = []
first_units unit (suc n) mode (b ∷ bytes) =
    let u = unit mode (b ∷ bytes) in
    (u.item, u.len) ∷ first_units unit n u.next (drop u.len (b ∷ bytes))

-- the units of a list of bytes, each with its length; each has one byte at least
unfoldable pub units : Code → Mode → List ℕ → List (Item × ℕ)
units unit mode bytes = first_units unit (length bytes) mode bytes

-- U+FFFD in UTF-8, which stands for a malformed unit (Encoding Standard, section 4.1, error mode
-- "replacement")
abbrev pub replacement : List ℕ
replacement = 0xEF ∷ 0xBF ∷ 0xBD ∷ []

-- the UTF-8 of an item
abbrev pub item_text : Item → List ℕ
item_text (One scalar) = encode_utf8 scalar
item_text (Two first second) = encode_utf8 first ++ encode_utf8 second
item_text Malformed = replacement
item_text Silent = []

-- the UTF-8 of units, in order
unfoldable pub text : List (Item × ℕ) → List ℕ
text us = flat_map (λ u. item_text u.0) us

-- what a list of bytes is
abbrev pub AreBytes : List ℕ → Type 0
AreBytes bytes = All (λ b. b < 256) bytes

-- a scalar of two bytes in UTF-8: U+0080 to U+07FF
abbrev pub IsOfTwoBytes : ℕ → Type 0
IsOfTwoBytes scalar = (0x80 ≤ scalar) × (scalar < 0x800)

-- the item's scalars are scalars, and both of a pair have two bytes, as in the four pairs of Big5
-- (Encoding Standard, section 11.1.1)
abbrev pub HasScalars : Item → Type 0
HasScalars (One scalar) = IsScalar scalar
HasScalars (Two first second) = IsOfTwoBytes first × IsOfTwoBytes second
HasScalars Malformed = ⊤
HasScalars Silent = ⊤

-- what the unit at the front of a rest keeps: it has one to four of the rest's bytes, its scalars
-- are scalars and small in a pair, and its text has at most three bytes for each of its bytes
pub record IsUnitOf (rest : List ℕ) (u : UnitAt) : Type 0 where
  pub some : 1 ≤ u.len
  pub four : u.len ≤ 4
  pub within : u.len ≤ length rest
  pub scalars : HasScalars u.item
  pub short_text : length (item_text u.item) ≤ 3 * u.len

-- what a code keeps: that, at each nonempty rest, and that the first four bytes of a rest decide
pub record IsCode (unit : Code) : Type 0 where
  pub each : (mode : Mode) (rest : List ℕ) → AreBytes rest → 0 < length rest
      → IsUnitOf rest (unit mode rest)
  pub first_four : (mode : Mode) (a b : List ℕ) → AreBytes a → AreBytes b → 4 ≤ length a
      → 4 ≤ length b → take 4 a ≡ take 4 b → unit mode a ≡ unit mode b

-- the text of a unit has at most three bytes for each of its bytes
abbrev pub IsShort : Item × ℕ → Type 0
IsShort u = length (item_text u.0) ≤ 3 * u.1
