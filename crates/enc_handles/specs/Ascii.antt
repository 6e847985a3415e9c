-- The ASCII at the front of a list of bytes, and how much of it a copy moves.
use Rattle.std.specs.Prelude.{ℕ, ◌+◌, ◌<◌, ◌≤◌, min, List, [], ◌∷◌, length, take, nat_lt, ◌==◌}
use Rattle.std.specs.Prelude.{if◌then◌else◌}
use Rattle.enc_handles.specs.Utf8.{text_of}
use Rattle.enc_handles.specs.declared.results.DecoderResult.{DecoderResult}
use Rattle.enc_handles.specs.declared.results.DecoderResult.TheVariants.{InputEmpty, OutputFull}

-- how many bytes below 0x80 stand at the front
abbrev pub ascii_len : List ℕ → ℕ
ascii_len [] = 0
ascii_len (byte ∷ bytes) = if nat_lt byte 0x80 then ascii_len bytes + 1 else 0

-- how many of them a copy into so much room moves
abbrev pub moved_len : List ℕ → ℕ → ℕ
moved_len bytes room = min (ascii_len bytes) room

-- the text of the bytes that are moved
abbrev pub moved_text : (ℕ → List ℕ) → List ℕ → ℕ → List ℕ
moved_text encode bytes room = text_of encode (take (moved_len bytes room) bytes)

-- a byte past ASCII stands behind the ASCII, and then as many elements as it needs are free
pub record GoesOn (bytes : List ℕ) (room needed : ℕ) : Type 0 where
  pub past : ascii_len bytes < length bytes
  pub fits : ascii_len bytes + needed ≤ room

-- how a copy that doesn't go on ends: the source ends first or at once with the room, or the room
-- does
abbrev pub stop_result : List ℕ → ℕ → DecoderResult
stop_result bytes room = if moved_len bytes room == length bytes then InputEmpty else OutputFull
