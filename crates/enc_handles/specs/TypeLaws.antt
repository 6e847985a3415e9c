-- What the derived traits of a type keep.
use Rattle.std.specs.Prelude.{◌≡◌, ◌↔◌, Bool, true}

-- values are equal exactly where they are the same
abbrev pub IsEquality : {T : Type 0} → (T → T → Bool) → Type 0
IsEquality {T} eq = (x y : T) → (eq x y ≡ true) ↔ (x ≡ y)

-- a clone of a value is that value
abbrev pub ClonesSame : {T : Type 0} → (T → T → Type 0) → Type 0
ClonesSame {T} is_clone = (x y : T) → is_clone x y → y ≡ x

-- equal values give a hasher the same
abbrev pub HashesEqual : {T H : Type 0} → (T → T → Bool) → (T → H) → Type 0
HashesEqual {T} eq hash_input = (x y : T) → eq x y ≡ true → hash_input x ≡ hash_input y
