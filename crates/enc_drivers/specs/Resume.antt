-- The resume equation: what a decode call has written and what is still to come are the units of
-- all bytes. The standard's decoders take a stream byte by byte and keep their state (Encoding
-- Standard, section 4.1); this says the same of any pieces.
use Rattle.std.specs.Prelude.{◌≡◌, ℕ, ◌+◌, ◌-◌, ◌≤◌, ◌⊎◌, Bool, true, List, [], ◌∷◌, ◌++◌, length}
use Rattle.std.specs.Prelude.{take, drop}
use Rattle.std.specs.List.{All, flat_map, sum_by}
use Rattle.enc_handles.specs.declared.results.DecoderResult.{DecoderResult}
use Rattle.enc_handles.specs.declared.results.DecoderResult.TheVariants as result
use Rattle.enc_drivers.specs.declared.unit.Item.{Item}
use Rattle.enc_drivers.specs.declared.unit.Item.TheVariants as item
use Rattle.enc_drivers.specs.declared.unit.Mode.{Mode}
use Rattle.enc_drivers.specs.Steps.{MayFollow, IsUndecided}
use Rattle.enc_drivers.specs.Units.{Code, units}

-- what a driver keeps between two calls: bytes that it has read and not yet decoded, and the mode
-- they are in
pub record Standing : Type 0 where
  pub held : List ℕ
  pub mode : Mode

-- an item in a form that writes one scalar as `form` says, U+FFFD for what is malformed (Encoding
-- Standard, section 4.1, error mode "replacement")
abbrev pub item_in : (ℕ → List ℕ) → Item → List ℕ
item_in form (item.One scalar) = form scalar
item_in form (item.Two first second) = form first ++ form second
item_in form item.Malformed = form 0xFFFD
item_in form item.Silent = []

-- the text of units in a form, in order
abbrev pub text_in : (ℕ → List ℕ) → List (Item × ℕ) → List ℕ
text_in form us = flat_map (λ u. item_in form u.0) us

-- the malformed unit that a result tells
abbrev pub malformed_of : DecoderResult → List (Item × ℕ)
malformed_of result.InputEmpty = []
malformed_of result.OutputFull = []
malformed_of (result.Malformed n k) = (item.Malformed, n) ∷ []

-- of src, the first `read` bytes were read, and the units `decoded` were written: with any bytes
-- that may follow, the units of what was held and src are these, the malformed unit if one was met,
-- and those of what is held now and the rest of src; what is held now are the last of the bytes
-- held before and read
pub record Resumes (unit : Code) (last : Bool) (before after : Standing) (src : List ℕ) (read : ℕ)
    (decoded malformed : List (Item × ℕ)) : Type 0 where
  pub well_formed : All (λ u. ¬ (u.0 ≡ item.Malformed)) decoded
  pub equation : (more : List ℕ) → MayFollow last more →
      units unit before.mode (before.held ++ (src ++ more)) ≡ decoded
      ++ (malformed ++ units unit after.mode (after.held ++ (drop read src ++ more)))
  pub gone : List ℕ
  pub held : before.held ++ take read src ≡ gone ++ after.held

-- the same, where what was written is the text of the decoded units
pub record ResumesWriting (unit : Code) (form : ℕ → List ℕ) (last : Bool) (before after : Standing)
    (src : List ℕ) (read : ℕ) (written : List ℕ) (malformed : List (Item × ℕ)) : Type 0 where
  pub decoded : List (Item × ℕ)
  pub resumes : Resumes unit last before after src read decoded malformed
  pub text : written ≡ text_in form decoded

-- nothing is held, or bytes whose unit depends on what follows
abbrev pub IsOpen : Code → Standing → Type 0
IsOpen unit standing = (standing.held ≡ []) ⊎ IsUndecided unit standing.mode standing.held

-- what may be held where the input is empty: at its end nothing, and else at most three bytes whose
-- unit depends on what follows
pub record MayHold (unit : Code) (last : Bool) (standing : Standing) : Type 0 where
  pub few : length standing.held ≤ 3
  pub end : last ≡ true → standing.held ≡ []
  pub undecided : IsOpen unit standing

-- how many bytes units have
abbrev pub unit_bytes : List (Item × ℕ) → ℕ
unit_bytes us = sum_by (λ u. u.1) us

-- the last of the bytes that were read was needed: a driver that had not read it stood behind the
-- units `decoded` at a front that was empty or undecided; and this front and that byte have at
-- least `count` bytes
pub record NeedsLast (unit : Code) (last : Bool) (before : Standing) (src : List ℕ)
    (read count : ℕ) : Type 0 where
  pub front : Standing
  pub decoded : List (Item × ℕ)
  pub resumes : Resumes unit last before front src (read - 1) decoded []
  pub undecided : IsOpen unit front
  pub covers : count ≤ length front.held + 1
