-- What a decode call of a driver keeps, in either width (Encoding Standard, section 4.1: a decoder
-- goes on where it stopped).
use Rattle.std.specs.Prelude.{◌≡◌, ℕ, ◌+◌, ◌-◌, ◌<◌, ◌≤◌, Bool, List, length, take, drop}
use Rattle.enc_handles.specs.declared.results.DecoderResult.{DecoderResult}
use Rattle.enc_handles.specs.declared.results.DecoderResult.TheVariants.{InputEmpty, OutputFull}
use Rattle.enc_handles.specs.declared.results.DecoderResult.TheVariants.{Malformed}
use Rattle.enc_drivers.specs.Resume.{Standing, ResumesWriting, MayHold, NeedsLast, malformed_of}
use Rattle.enc_drivers.specs.Resume.{unit_bytes}
use Rattle.enc_drivers.specs.Units.{Code}

-- a call on a piece `src` with a buffer that was `old` and is `new`, by the units of a code, in a
-- form that needs at most `room` elements for a scalar; the answer is how the call ended, how much
-- of src it read, and how much it wrote
pub record DecodesRaw (unit now : Code) (form : ℕ → List ℕ) (room : ℕ) (last : Bool)
    (before after : Standing) (src old new : List ℕ) (answer : DecoderResult × ℕ × ℕ) : Type 0 where
  pub resumes : ResumesWriting unit form last before after src answer.1 (take answer.2 new)
      (malformed_of answer.0)
  pub read : answer.1 ≤ length src
  pub written : answer.2 ≤ length new
  pub len : length new ≡ length old
  pub few : length after.held ≤ 3
  pub input_empty : answer.0 ≡ InputEmpty → (answer.1 ≡ length src) × MayHold unit last after
  pub output_full : answer.0 ≡ OutputFull → length new - answer.2 < room
  pub pending : answer.0 ≡ OutputFull → 0 < length after.held + length (drop answer.1 src)
  pub malformed : (n k : ℕ) → answer.0 ≡ Malformed n k → k ≡ length after.held
  pub read_ahead : 0 < answer.1 → 0 < length after.held
      → NeedsLast unit last before src answer.1
      (unit_bytes (malformed_of answer.0) + length after.held)
  pub same_code : now ≡ unit
