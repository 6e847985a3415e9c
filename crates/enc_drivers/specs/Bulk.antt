-- What a driver may copy in one go while it holds nothing.
use Rattle.std.specs.Prelude.{◌≡◌, ℕ, ◌<◌, ⊤, true, false, List, [], ◌∷◌, ◌++◌}
use Rattle.enc_handles.specs.Entries.{entry_of, AreEntries}
use Rattle.enc_drivers.specs.declared.code.Bulk.{Bulk}
use Rattle.enc_drivers.specs.declared.code.Bulk.TheVariants as bulk
use Rattle.enc_drivers.specs.declared.unit.Item.{Item}
use Rattle.enc_drivers.specs.declared.unit.Item.TheVariants.{One}
use Rattle.enc_drivers.specs.declared.unit.Mode.{Mode}
use Rattle.enc_drivers.specs.Codes.Utf16.{utf16_unit}
use Rattle.enc_drivers.specs.Codes.Utf8.{utf8_unit}
use Rattle.enc_drivers.specs.Units.{Code, AreBytes, scalar_at}

-- in every mode a byte below 80 is a unit of itself, and keeps the mode
abbrev pub KeepsAscii : Code → Type 0
KeepsAscii unit = (mode : Mode) (byte : ℕ) (rest : List ℕ) → byte < 0x80
    → unit mode (byte ∷ rest) ≡ scalar_at mode byte 1

-- in every mode the units are those of another code
abbrev pub ReadsAs : Code → Code → Type 0
ReadsAs other unit = (mode : Mode) (rest : List ℕ) → unit mode rest ≡ other mode rest

-- what a code keeps that names a copy
abbrev pub MayCopy : Code → Bulk → Type 0
MayCopy unit bulk.None = ⊤
MayCopy unit bulk.Ascii = KeepsAscii unit
MayCopy unit bulk.Utf8 = ReadsAs utf8_unit unit
MayCopy unit bulk.Utf16Le = ReadsAs (utf16_unit false) unit
MayCopy unit bulk.Utf16Be = ReadsAs (utf16_unit true) unit

-- in every mode, and whatever follows, the bytes begin with this scalar, which has n of them and
-- keeps the mode
abbrev pub BeginsWithScalar : Code → List ℕ → ℕ → ℕ → Type 0
BeginsWithScalar unit bytes scalar n = (mode : Mode) (more : List ℕ) → AreBytes more
    → unit mode (bytes ++ more) ≡ scalar_at mode scalar n

-- as many bytes as scalars: each is in every mode a unit of itself, which stands for its scalar and
-- keeps the mode
abbrev pub ReadsBytes : Code → List ℕ → List ℕ → Type 0
ReadsBytes unit [] [] = ⊤
ReadsBytes unit [] (scalar ∷ scalars) = ⊥
ReadsBytes unit (byte ∷ bytes) [] = ⊥
ReadsBytes unit (byte ∷ bytes) (scalar ∷ scalars) =
    ((mode : Mode) (rest : List ℕ) → unit mode (byte ∷ rest) ≡ scalar_at mode scalar 1)
    × ReadsBytes unit bytes scalars

-- the numbers are the entries of scalars that bytes are read as so
pub record ReadsEntries (unit : Code) (bytes numbers : List ℕ) : Type 0 where
  pub scalars : List ℕ
  pub entries : AreEntries numbers scalars
  pub reads : ReadsBytes unit bytes scalars

-- a scalar with so many bytes, which is the item
abbrev pub IsScalarOf : Item → ℕ → ℕ × ℕ → Type 0
IsScalarOf item n found = (item ≡ One found.0) × (found.1 ≡ n)

-- the item is a scalar up to U+FFFF, and the number is its entry
pub record IsItemEntry (found : Item) (number : ℕ) : Type 0 where
  pub code : ℕ
  pub is : found ≡ One code
  pub small : code < 0x1_0000
  pub entry : number ≡ entry_of code

-- in every mode, and whatever follows, two bytes are a scalar up to U+FFFF that keeps the mode, and
-- the number is its entry
pub record IsPairEntry (unit : Code) (first second number : ℕ) : Type 0 where
  pub code : ℕ
  pub small : code < 0x1_0000
  pub entry : number ≡ entry_of code
  pub reads : (mode : Mode) (rest : List ℕ) → unit mode (first ∷ second ∷ rest)
      ≡ scalar_at mode code 2

-- the same of the scalar at the front of bytes, which has n of them
pub record BeginsWithEntry (unit : Code) (bytes : List ℕ) (number n : ℕ) : Type 0 where
  pub code : ℕ
  pub small : code < 0x1_0000
  pub entry : number ≡ entry_of code
  pub begins : BeginsWithScalar unit bytes code n
