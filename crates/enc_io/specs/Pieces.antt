-- What one call of a decoder does for a reader of a stream's text.
use Rattle.std.specs.Prelude.{◌≡◌, ℕ, ◌+◌, ◌*◌, ◌≤◌, Bool, true, false, List, [], ◌++◌, length}
use Rattle.std.specs.Prelude.{drop}
use Rattle.enc_drivers.specs.Steps.{MayFollow}
use Rattle.enc_front.specs.DecoderCalls.{DecoderMayHold, owed_count}
use Rattle.enc_front.specs.Decoder.{DecoderStanding, text_to_come}

-- of a piece the first `read` bytes were read; some text was given, and some waits. Where none was
-- given, all was read, and what is held depends on what follows; where the decoder has finished, no
-- text is to come
pub record DecodesPiece (last : Bool) (before after : DecoderStanding) (src : List ℕ) (read : ℕ)
    (given waits : List ℕ) : Type 0 where
  pub text : (more : List ℕ) → MayFollow last more → text_to_come before (src ++ more) ≡ given
      ++ (waits ++ text_to_come after (drop read src ++ more))
  pub falls : length given + length waits + 3 * (length after.place.held + owed_count after)
      ≤ 3 * (length before.place.held + read + owed_count before)
  pub all : given ≡ [] → (read ≡ length src) × (waits ≡ []) × (after.owes ≡ false)
      × DecoderMayHold last after.place × (after.finished ≡ last)
  pub end : after.finished ≡ true → (last ≡ true) × (text_to_come after [] ≡ [])
