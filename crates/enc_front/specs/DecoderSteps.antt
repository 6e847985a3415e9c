-- What the private functions of a decoder keep and tell.
use Rattle.std.specs.Prelude.{◌≡◌, ℕ, ◌+◌, [], Bool, true, false}
use Rattle.enc_handles.specs.declared.results.DecoderResult.{DecoderResult}
use Rattle.enc_handles.specs.declared.results.DecoderResult.TheVariants as result
use Rattle.enc_drivers.specs.declared.unit.Mode.TheVariants.{Plain}
use Rattle.enc_drivers.specs.Resume.{Standing}
use Rattle.enc_front.specs.Decoder.{DecoderStanding}

-- whether U+FFFD is owed and the stream has ended stays as it was
pub record SameEnd (before after : DecoderStanding) : Type 0 where
  pub same_owes : after.owes ≡ before.owes
  pub same_finished : after.finished ≡ before.finished

-- a driver at the start of a stream
abbrev pub at_start : Standing
at_start = record { held = []; mode = Plain }

-- the result of a driver, where so many bytes besides are held
abbrev pub with_more : DecoderResult → ℕ → DecoderResult
with_more result.InputEmpty count = result.InputEmpty
with_more result.OutputFull count = result.OutputFull
with_more (result.Malformed n k) count = result.Malformed n (k + count)

-- a call has met a malformed unit
abbrev pub tells_malformed : DecoderResult → Bool
tells_malformed result.InputEmpty = false
tells_malformed result.OutputFull = false
tells_malformed (result.Malformed n k) = true
