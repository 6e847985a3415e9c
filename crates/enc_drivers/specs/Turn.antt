-- What the steps of a driver do, for the contracts of its private functions.
use Rattle.std.specs.Prelude.{◌≡◌, ℕ, ◌+◌, ◌-◌, ◌<◌, ◌≤◌, Bool, true, List, [], ◌++◌, length, take}
use Rattle.std.specs.Prelude.{drop, Option, None, Some}
use Rattle.std.specs.List.{flat_map}
use Rattle.enc_handles.specs.Utf8.{AreScalars, text_of}
use Rattle.enc_handles.specs.Writing.{Writing, after_writing}
use Rattle.enc_handles.specs.declared.results.DecoderResult.{DecoderResult}
use Rattle.enc_handles.specs.declared.results.DecoderResult.TheVariants as result
use Rattle.enc_drivers.specs.declared.unit.Item.{Item}
use Rattle.enc_drivers.specs.declared.unit.Mode.{Mode}
use Rattle.enc_drivers.specs.declared.code.Step.{Step}
use Rattle.enc_drivers.specs.declared.code.Step.TheVariants as step
use Rattle.enc_drivers.specs.Resume.{Standing, Resumes, NeedsLast, MayHold, IsOpen, text_in}
use Rattle.enc_drivers.specs.Resume.{malformed_of, unit_bytes}
use Rattle.enc_drivers.specs.Steps.{IsDecided}
use Rattle.enc_drivers.specs.Units.{Code, UnitAt, AreBytes}

-- a front of one to four bytes that has this unit whatever may follow
pub record Decides (unit : Code) (last : Bool) (front : Standing) (u : UnitAt) : Type 0 where
  pub some : 0 < length front.held
  pub four : length front.held ≤ 4
  pub bytes : AreBytes front.held
  pub decided : IsDecided unit front.mode front.held last u

-- what a look at a front tells
abbrev pub StepsFront : Code → Bool → Standing → Step → Type 0
StepsFront unit last front (step.Unit item length next) =
    Decides unit last front (record { item = item; len = length; next = next })
StepsFront unit last front step.More = MayHold unit last front

-- the front has its unit, by nothing that follows only where nothing is left; or nothing is left
abbrev pub Finds : Code → Bool → Standing → List ℕ → Step → Type 0
Finds unit last front rest (step.Unit item length next) =
    (end : Bool) × Decides unit end front (record { item = item; len = length; next = next })
    × (end ≡ true → (last ≡ true) × (rest ≡ []))
Finds unit last front rest step.More = MayHold unit last front × (rest ≡ [])

-- the first n bytes of src were read onto a front, the last of them onto one that was empty or
-- undecided
pub record ReadsOnto (unit : Code) (mode : Mode) (old new src : List ℕ) (n : ℕ) : Type 0 where
  pub within : n ≤ length src
  pub front : new ≡ old ++ take n src
  pub needed : 0 < n → IsOpen unit (record { held = old ++ take (n - 1) src; mode = mode })

-- bytes were read onto a front until its unit was found
pub record Looks (unit : Code) (mode : Mode) (last : Bool) (old new src : List ℕ) (n : ℕ)
    (step : Step) : Type 0 where
  pub reads : ReadsOnto unit mode old new src n
  pub finds : Finds unit last (record { held = new; mode = mode }) (drop n src) step

-- the first n bytes of src were read, which spell scalars, and the text of these was written
pub record CopiesScalars (spell form : ℕ → List ℕ) (src : List ℕ) (n : ℕ)
    (from to : Writing) : Type 0 where
  pub scalars : List ℕ
  pub each : AreScalars scalars
  pub front : take n src ≡ flat_map spell scalars
  pub within : n ≤ length src
  pub text : to ≡ after_writing from (text_of form scalars)
  pub fits : length (text_of form scalars) ≤ from.free

-- a part of a decode call: how far it has come in src
pub record Goes (unit : Code) (form : ℕ → List ℕ) (last : Bool) (before after : Standing)
    (src : List ℕ) (count : ℕ) (from to : Writing) (malformed : List (Item × ℕ)) : Type 0 where
  pub decoded : List (Item × ℕ)
  pub within : count ≤ length src
  pub resumes : Resumes unit last before after src count decoded malformed
  pub text : to ≡ after_writing from (text_in form decoded)
  pub fits : length (text_in form decoded) ≤ from.free
  pub fewer : unit_bytes malformed + length after.held ≤ length before.held + count
  pub ahead : 0 < count → 0 < length after.held
      → NeedsLast unit last before src count (unit_bytes malformed + length after.held)

-- how a decode call ends: the source is empty and what is held may be; there is too little room for
-- what is held or left; or how many bytes are held behind the malformed unit
abbrev pub Ends : Code → Bool → Standing → List ℕ → ℕ → ℕ → DecoderResult → Type 0
Ends unit last after rest free room result.InputEmpty = (rest ≡ []) × MayHold unit last after
Ends unit last after rest free room result.OutputFull = (free < room)
    × (0 < length after.held + length rest)
Ends unit last after rest free room (result.Malformed n k) = k ≡ length after.held

-- the malformed unit that a turn of a decode call tells, if it ends the call
abbrev pub malformed_if_ends : Option DecoderResult → List (Item × ℕ)
malformed_if_ends (Some r) = malformed_of r
malformed_if_ends None = []

-- a part of a decode call ends it, or it goes on
abbrev pub EndsIf : Code → Bool → Standing → List ℕ → ℕ → ℕ → Option DecoderResult → Type 0
EndsIf unit last after rest free room (Some r) = Ends unit last after rest free room r
EndsIf unit last after rest free room None = Unit {0}

-- a turn of a decode call that read n bytes of src ends it, or leaves fewer bytes than there were
abbrev pub EndsOrGoesOn : Code → Bool → Standing → Standing → List ℕ → ℕ → ℕ → ℕ
    → Option DecoderResult → Type 0
EndsOrGoesOn unit last before after src n free room (Some r) =
    Ends unit last after (drop n src) free room r
EndsOrGoesOn unit last before after src n free room None =
    length after.held + length (drop n src) < length before.held + length src
