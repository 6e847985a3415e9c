-- What a check for space or for an element, or a copy of ASCII, answered.
use Rattle.std.specs.Prelude.{◌≡◌, ℕ, ⊤}
use Rattle.std.specs.Borrow.{follows_so, MutBor, RattleType, GName, Fml}
use mathlib.Core.Option as maybe
use Rattle.enc_handles.specs.declared.space.Space.{Space}
use Rattle.enc_handles.specs.declared.space.Space.TheVariants.{Available, Full}
use Rattle.enc_handles.specs.declared.space.CopyAsciiResult.{CopyAsciiResult}
use Rattle.enc_handles.specs.declared.space.CopyAsciiResult.TheVariants.{Stop, GoOn}

-- the check gave a handle; of which the fact holds
abbrev pub IsAvailable : {T : Type 0} → Space T → Type 0
IsAvailable (Available handle) = ⊤
IsAvailable (Full place) = ⊥

abbrev pub IfAvailable : {T : Type 0} → Space T → (T → Type 0) → Type 0
IfAvailable (Available handle) P = P handle
IfAvailable (Full place) P = ⊤

abbrev pub IfFull : {T : Type 0} → Space T → (ℕ → Type 0) → Type 0
IfFull (Available handle) P = ⊤
IfFull (Full place) P = P place

-- the name of the reference that a handle keeps
abbrev pub name_if_available : {T : Type 0} → (T → GName) → Space T → maybe.Option GName
name_if_available name (Available handle) = maybe.some (name handle)
name_if_available name (Full place) = maybe.none

-- the lender s is in the handle where there is one, and else it ends as P says
module _ (R : RattleType) (s : MutBor R.Denot) {T : Type 0} (name : T → GName) where
  abbrev pub RestsIfFull : Space T → (R.Denot → Type 0) → Fml
  RestsIfFull space P =
      follows_so R R s.ghost_name (name_if_available name space)
      (λ x n. IfAvailable space (λ _. n ≡ x)) (λ n. IfFull space (λ _. P n))

-- the copy goes on; what holds of the byte and the handle, or of the result and the places
abbrev pub IsGoOn : {T U : Type 0} → CopyAsciiResult T U → Type 0
IsGoOn (Stop stop) = ⊥
IsGoOn (GoOn more) = ⊤

abbrev pub IfGoOn : {T U : Type 0} → CopyAsciiResult T U → (U → Type 0) → Type 0
IfGoOn (Stop stop) P = ⊤
IfGoOn (GoOn more) P = P more

abbrev pub IfStop : {T U : Type 0} → CopyAsciiResult T U → (T → Type 0) → Type 0
IfStop (Stop stop) P = P stop
IfStop (GoOn more) P = ⊤

-- the name of the reference that the handle keeps
abbrev pub name_if_go_on : {T U : Type 0} → (U → GName) → CopyAsciiResult T U → maybe.Option GName
name_if_go_on name (Stop stop) = maybe.none
name_if_go_on name (GoOn more) = maybe.some (name more)

-- the lender s is in the handle where there is one, and else it ends as P says
module _ (R : RattleType) (s : MutBor R.Denot) {T U : Type 0} (name : U → GName) where
  abbrev pub RestsIfStop : CopyAsciiResult T U → (R.Denot → Type 0) → Fml
  RestsIfStop copy P =
      follows_so R R s.ghost_name (name_if_go_on name copy) (λ x n. IfGoOn copy (λ _. n ≡ x))
      (λ n. IfStop copy (λ _. P n))
