-- What a look at the front of bytes tells of the unit there (Encoding Standard, section 4.1: a
-- decoder goes on to the next byte, or to the end of the stream).
use Rattle.std.specs.Prelude.{◌≡◌, ℕ, Bool, true, false, List, [], ◌++◌}
use Rattle.enc_drivers.specs.declared.unit.Mode.{Mode}
use Rattle.enc_drivers.specs.declared.code.Step.{Step}
use Rattle.enc_drivers.specs.declared.code.Step.TheVariants as step
use Rattle.enc_drivers.specs.Units.{Code, UnitAt, AreBytes}

-- what may follow the bytes that are there: any bytes, or nothing where these are the last
pub record MayFollow (last : Bool) (more : List ℕ) : Type 0 where
  pub bytes : AreBytes more
  pub none : last ≡ true → more ≡ []

-- the front has this unit whatever follows
abbrev pub IsDecided : Code → Mode → List ℕ → Bool → UnitAt → Type 0
IsDecided unit mode front last u = (more : List ℕ) → MayFollow last more
    → unit mode (front ++ more) ≡ u

-- two continuations of the front, one of which may be empty, differ in their first unit
pub record IsUndecided (unit : Code) (mode : Mode) (front : List ℕ) : Type 0 where
  pub one : List ℕ
  pub other : List ℕ
  pub one_bytes : AreBytes one
  pub other_bytes : AreBytes other
  pub differ : ¬ (unit mode (front ++ one) ≡ unit mode (front ++ other))

-- the unit that the front has whatever follows, or that more bytes are needed
abbrev pub Steps : Code → Mode → List ℕ → Bool → Step → Type 0
Steps unit mode front last (step.Unit item length next) =
    IsDecided unit mode front last (record { item = item; len = length; next = next })
Steps unit mode front last step.More = (last ≡ false) × IsUndecided unit mode front
