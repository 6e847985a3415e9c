-- What a reader of a stream behind its mark stands for between two calls.
use Rattle.std.specs.Prelude.{◌≡◌, ℕ, Bool, true, false, if◌then◌else◌, List, [], ◌++◌, length}
use Rattle.std.specs.Prelude.{take, Result, Ok, Err}
use Rattle.std.specs.Io.KnownBytes.{Consumes}
use Rattle.std.specs.declared.option.Option.{Option}
use Rattle.std.specs.Option.{option_map}
use Rattle.enc_drivers.specs.Units.{AreBytes}
use Rattle.enc_front.specs.Marks.{without_mark}

-- whether a mark is left out, the bytes gathered to look for it, whether that is done, those of
-- them that are still to be given once it is, and whether the source has ended
pub record PeekerStanding : Type 0 where
  pub strips : Bool
  pub gathered : List ℕ
  pub peeked : Bool
  pub waiting : List ℕ
  pub ended : Bool

-- a reader at the start of a stream
abbrev pub fresh : Bool → PeekerStanding
fresh strips = record {
  strips = strips;
  gathered = [];
  peeked = false;
  waiting = [];
  ended = false;
}

-- what is given of a stream: all its bytes, or those behind its mark (Encoding Standard, section 6,
-- "decode")
abbrev pub stream_bytes : Bool → List ℕ → List ℕ
stream_bytes strips bytes = if strips then without_mark bytes else bytes

-- what is still to give where the source gives these bytes and then ends
abbrev pub still : PeekerStanding → List ℕ → List ℕ
still at rest = if at.peeked then at.waiting ++ rest
    else stream_bytes at.strips (at.gathered ++ rest)

-- the same for what the source has left, where it tells that
abbrev pub still_known : PeekerStanding → Option (List ℕ) → Option (List ℕ)
still_known at left = option_map (still at) left

-- some bytes were moved from the source: whatever follows them, what was still to give is what was
-- given and what is still to give now. What is gathered are the first three bytes of the stream
pub record PeekerMoves (left_before left_after : Option (List ℕ)) (before after : PeekerStanding)
    (given : List ℕ) : Type 0 where
  pub moved : List ℕ
  pub consumed : Consumes left_before left_after moved
  pub equation : (rest : List ℕ) → (after.ended ≡ true → rest ≡ [])
      → still before (moved ++ rest) ≡ given ++ still after rest
  pub gathered : after.gathered ≡ take 3 (before.gathered ++ moved)
  pub same_strips : after.strips ≡ before.strips

-- all is given: no gathered byte is left, and the source has ended
pub record HasGivenAll (at : PeekerStanding) : Type 0 where
  pub peeked : at.peeked ≡ true
  pub waiting : at.waiting ≡ []
  pub ended : at.ended ≡ true

-- the bytes that a read gave
abbrev pub given_by : {E : Type 0} → Result ℕ E → List ℕ → List ℕ
given_by (Ok n) buf = take n buf
given_by (Err e) buf = []

-- the bytes that a read gave, and how many of them the source gave in it
abbrev pub given_within : {E : Type 0} → Result (ℕ × ℕ) E → List ℕ → List ℕ
given_within (Ok n) buf = take n.0 buf
given_within (Err e) buf = []

abbrev pub count_by : {E : Type 0} → Result ℕ E → ℕ
count_by (Ok n) = n
count_by (Err e) = 0

abbrev pub taken_by : {E : Type 0} → Result (ℕ × ℕ) E → ℕ
taken_by (Ok n) = n.1
taken_by (Err e) = 0

-- behind the gathering: bytes that waited were given, or some that the source gave then
pub record GivesNext (left_before left_after : Option (List ℕ)) (before after : PeekerStanding)
    (given : List ℕ) (taken : ℕ) : Type 0 where
  pub moved : List ℕ
  pub bytes : AreBytes moved
  pub count : length moved ≡ taken
  pub consumed : Consumes left_before left_after moved
  pub seam : before.waiting ++ moved ≡ given ++ after.waiting
  pub behind_end : before.ended ≡ true → moved ≡ []
  pub same_strips : after.strips ≡ before.strips
  pub same_gathered : after.gathered ≡ before.gathered

-- all bytes for the mark are gathered: what waits, and what follows, is what is given of the stream
pub record FrontWaits (at : PeekerStanding) : Type 0 where
  pub peeked : at.peeked ≡ true
  pub whole : at.ended ≡ false → length at.gathered ≡ 3
  pub front : (rest : List ℕ) → (at.ended ≡ true → rest ≡ [])
      → stream_bytes at.strips (at.gathered ++ rest) ≡ at.waiting ++ rest

-- bytes for the mark were gathered
pub record Gathers (left_before left_after : Option (List ℕ))
    (before after : PeekerStanding) : Type 0 where
  pub moved : List ℕ
  pub bytes : AreBytes moved
  pub consumed : Consumes left_before left_after moved
  pub grown : after.gathered ≡ before.gathered ++ moved
  pub same_strips : after.strips ≡ before.strips
  pub front : after.peeked ≡ true → FrontWaits after
