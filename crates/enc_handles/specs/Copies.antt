-- What the bulk copies move.
use Rattle.std.specs.Prelude.{◌≡◌, ℕ, ◌+◌, ◌-◌, ◌++◌, ◌*◌, ◌<◌, ◌≤◌, ◌⊎◌, Bool, true, false}
use Rattle.std.specs.Prelude.{MatchBool, List, length, slice_index, take, drop, Option, MatchOption}
use Rattle.std.specs.Prelude.{encode_utf8_all}
use Rattle.std.specs.Char.{IsScalar}
use Rattle.std.specs.Simd.Lanes.{Each1}
use Rattle.enc_handles.specs.Reading.{Reading, left, after_reading}
use Rattle.enc_handles.specs.Utf16.{encode_utf16_all, is_lead, is_unpaired_at}
use Rattle.enc_handles.specs.Utf8.{AreScalars, text_of, IsFittingFront, IsLongestFront}
use Rattle.enc_handles.specs.UnitSlice.{Puts}
use Rattle.enc_handles.specs.Writing.{Writing, after_writing}

-- the longest front of whole well-formed sequences whose text fits the room was read, and its text
-- was written
pub record CopiesUtf8 (form : ℕ → List ℕ) (old new : Reading)
    (before after : Writing) : Type 0 where
  pub scalars : List ℕ
  pub longest : IsLongestFront form (left old) before.free scalars
  pub read : new ≡ after_reading old (length (encode_utf8_all scalars))
  pub written : after ≡ after_writing before (text_of form scalars)

-- these scalars were copied so far
pub record Copied (form : ℕ → List ℕ) (r₀ r : Reading) (w₀ w : Writing)
    (scalars : List ℕ) : Type 0 where
  pub each : AreScalars scalars
  pub rest : left r₀ ≡ encode_utf8_all scalars ++ left r
  pub read : r ≡ after_reading r₀ (length (encode_utf8_all scalars))
  pub written : w ≡ after_writing w₀ (text_of form scalars)
  pub room : length (text_of form scalars) + w.free ≡ w₀.free

-- a front of whole well-formed sequences that fits behind place `at` was moved: how many bytes, and
-- the place behind
pub record MovesFront (form : ℕ → List ℕ) (bytes old new : List ℕ) (at : ℕ)
    (moved : ℕ × ℕ) : Type 0 where
  pub scalars : List ℕ
  pub fitting : IsFittingFront form bytes (length old - at) scalars
  pub read : moved.0 ≡ length (encode_utf8_all scalars)
  pub end : moved.1 ≡ at + length (text_of form scalars)
  pub text : Puts old new at (text_of form scalars)

-- n units were read, and the window ended there or less than the needed room was left
pub record StopsBehind (window : List ℕ) (needed : ℕ) (old new : Reading) (after : Writing)
    (n : ℕ) : Type 0 where
  pub read : new ≡ after_reading old (2 * n)
  pub cause : (n ≡ length window) ⊎ (after.free < needed)

-- n units and the unpaired surrogate behind them were read with the needed room left, and the
-- places are those of source and destination
pub record ReadsUnpaired (window : List ℕ) (needed : ℕ) (old new : Reading) (after : Writing)
    (places : ℕ × ℕ) (n : ℕ) : Type 0 where
  pub read : new ≡ after_reading old (2 * (n + 1))
  pub within : n < length window
  pub unpaired : is_unpaired_at window n ≡ true
  pub room : needed ≤ after.free
  pub source_place : places.0 ≡ new.place
  pub destination_place : places.1 ≡ length after.text

-- before each of these scalars at least the needed room was left: what stands before the one at
-- place k and that room fit
abbrev pub HasRoomBeforeEach : (ℕ → List ℕ) → ℕ → ℕ → List ℕ → Type 0
HasRoomBeforeEach form needed free scalars =
    (k : ℕ) → k < length scalars → length (text_of form (take k scalars)) + needed ≤ free

-- a front of the window was read that is the UTF-16 of scalars, each of which found the needed
-- room, and their text was written; then the window ended, or less than the needed room was left,
-- or an unpaired surrogate was read
pub record CopiesUtf16 (form : ℕ → List ℕ) (window : List ℕ) (needed : ℕ) (old new : Reading)
    (before after : Writing) (result : Option (ℕ × ℕ)) : Type 0 where
  pub scalars : List ℕ
  pub each : AreScalars scalars
  pub front : take (length (encode_utf16_all scalars)) window ≡ encode_utf16_all scalars
  pub room : HasRoomBeforeEach form needed before.free scalars
  pub written : after ≡ after_writing before (text_of form scalars)
  pub stopped : MatchOption result
      (StopsBehind window needed old new after (length (encode_utf16_all scalars)))
      (λ places. ReadsUnpaired window needed old new after places
      (length (encode_utf16_all scalars)))

-- the same of the units alone, of which so many were read
pub record CopiesUnits (form : ℕ → List ℕ) (window : List ℕ) (needed : ℕ) (before after : Writing)
    (read : ℕ) (unpaired : Bool) : Type 0 where
  pub scalars : List ℕ
  pub each : AreScalars scalars
  pub front : take (length (encode_utf16_all scalars)) window ≡ encode_utf16_all scalars
  pub room : HasRoomBeforeEach form needed before.free scalars
  pub written : after ≡ after_writing before (text_of form scalars)
  pub within : read ≤ length window
  pub stopped : MatchBool unpaired
      ((read ≡ length (encode_utf16_all scalars) + 1)
      × ((is_unpaired_at window (length (encode_utf16_all scalars)) ≡ true)
      × (needed ≤ after.free)))
      ((read ≡ length (encode_utf16_all scalars))
      × ((read ≡ length window) ⊎ (after.free < needed)))

-- these units, which are scalars, were written behind place `at`: `end` is the place behind their
-- text, and before each of them the needed room was left
pub record MovesUnits (form : ℕ → List ℕ) (needed : ℕ) (units old new : List ℕ)
    (at end : ℕ) : Type 0 where
  pub each : Each1 (λ u. IsScalar u × (u < 0x1_0000)) units
  pub place : end ≡ at + length (text_of form units)
  pub text : Puts old new at (text_of form units)
  pub room : HasRoomBeforeEach form needed (length old - at) units
  pub fits : end ≤ length old

-- the same of some units of a window from place `from` on: how many they are, and the place behind
-- their text
pub record MovesFrom (form : ℕ → List ℕ) (needed : ℕ) (window old new : List ℕ) (at from : ℕ)
    (moved : ℕ × ℕ) : Type 0 where
  pub units : List ℕ
  pub here : units ≡ take moved.0 (drop from window)
  pub within : from + moved.0 ≤ length window
  pub moves : MovesUnits form needed units old new at moved.1

-- the units from place `read` to `next` of the window are those of scalars, at least one, each of
-- which found the needed room, and their text was written
pub record MovesScalars (form : ℕ → List ℕ) (needed : ℕ) (window : List ℕ) (before after : Writing)
    (read next : ℕ) : Type 0 where
  pub scalars : List ℕ
  pub each : AreScalars scalars
  pub units : take next window ≡ take read window ++ encode_utf16_all scalars
  pub count : next ≡ read + length (encode_utf16_all scalars)
  pub some : read < next
  pub within : next ≤ length window
  pub end : is_lead (slice_index window (next - 1)) ≡ false
  pub written : after ≡ after_writing before (text_of form scalars)
  pub fits : length (text_of form scalars) ≤ before.free
  pub room : HasRoomBeforeEach form needed before.free scalars
