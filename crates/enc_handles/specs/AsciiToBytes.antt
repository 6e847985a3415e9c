-- What a copy of ASCII from text to bytes does.
use Rattle.std.specs.Prelude.{◌≡◌, ℕ, ◌+◌, ◌≤◌, List, [], ◌∷◌, ◌++◌, length, take, drop}
use Rattle.std.specs.Prelude.{slice_index, ◌==◌, if◌then◌else◌}
use Rattle.enc_handles.specs.Ascii.{ascii_len, moved_len}
use Rattle.enc_handles.specs.Reading.{Reading, left, after_reading}
use Rattle.enc_handles.specs.Scalars.{ReadsScalars}
use Rattle.enc_handles.specs.Unicode.{non_ascii_of, non_ascii_scalar}
use Rattle.enc_handles.specs.Writing.{Writing, after_writing}
use Rattle.enc_handles.specs.declared.unicode.NonAscii.{NonAscii}
use Rattle.enc_handles.specs.declared.results.EncoderResult.{EncoderResult}
use Rattle.enc_handles.specs.declared.results.EncoderResult.TheVariants.{InputEmpty, OutputFull}

-- the ASCII at the front, as much as fits the room
abbrev pub moved_ascii : List ℕ → ℕ → List ℕ
moved_ascii elements room = take (moved_len elements room) elements

-- how a copy that doesn't go on ends: the source ends first or at once with the room, or the room
-- does
abbrev pub encoder_stop_result : List ℕ → ℕ → EncoderResult
encoder_stop_result elements room = if moved_len elements room == length elements then InputEmpty
    else OutputFull

-- the elements behind the ASCII
abbrev pub past_ascii : List ℕ → List ℕ
past_ascii elements = drop (ascii_len elements) elements

-- all the ASCII was read and written, and then the character past it was read, for which there is
-- the needed room
pub record GoesOnPast (scalars_of : List ℕ → List ℕ) (first_len : List ℕ → ℕ) (needed : ℕ)
    (old new : Reading) (before after : Writing) (character : NonAscii) : Type 0 where
  pub character_is : character ≡ non_ascii_of (slice_index (scalars_of (past_ascii (left old))) 0)
  pub past : 0x80 ≤ non_ascii_scalar character
  pub read : new ≡ after_reading old (ascii_len (left old) + first_len (past_ascii (left old)))
  pub scalars : ReadsScalars scalars_of old new
      (take (ascii_len (left old)) (left old) ++ non_ascii_scalar character ∷ [])
  pub written : after ≡ after_writing before (take (ascii_len (left old)) (left old))
  pub room : needed ≤ after.free

-- the ASCII that fits was read; why the copy stopped, and the places of source and destination
pub record StopsIn (scalars_of : List ℕ → List ℕ) (old new : Reading) (before : Writing)
    (stop : EncoderResult × ℕ × ℕ) : Type 0 where
  pub read : new ≡ after_reading old (moved_len (left old) before.free)
  pub scalars : ReadsScalars scalars_of old new (moved_ascii (left old) before.free)
  pub cause : stop.0 ≡ encoder_stop_result (left old) before.free
  pub source_place : stop.1 ≡ new.place
  pub destination_place : stop.2 ≡ length (before.text ++ moved_ascii (left old) before.free)
