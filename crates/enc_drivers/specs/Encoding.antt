-- What a part of an encode call does, over a source and a destination.
use Rattle.std.specs.Prelude.{◌≡◌, ℕ, ◌<◌, ◌≤◌, Bool, true, false, List, [], ◌∷◌, ◌++◌, length}
use Rattle.std.specs.Prelude.{Option, Some, None, IsSome, Result, Ok, Err}
use Rattle.std.specs.List.{All}
use Rattle.std.specs.Option.{option_map_or}
use Rattle.enc_handles.specs.declared.results.EncoderResult.{EncoderResult}
use Rattle.enc_handles.specs.declared.results.EncoderResult.TheVariants.{InputEmpty, OutputFull}
use Rattle.enc_handles.specs.declared.results.EncoderResult.TheVariants.{Unmappable}
use Rattle.enc_handles.specs.Reading.{Reading, left}
use Rattle.enc_handles.specs.Scalars.{ReadsScalars}
use Rattle.enc_handles.specs.Writing.{Writing, after_writing}
use Rattle.enc_drivers.specs.Encode.{BytesOf, HaveBytes, encoded}
use Rattle.enc_drivers.specs.Encodes.{unmappable_of}

-- scalars were read, and their bytes written; then these were read that have none
pub record Encodes (scalars_of : List ℕ → List ℕ) (bytes_of : BytesOf) (old new : Reading)
    (before after : Writing) (unmappable : List ℕ) : Type 0 where
  pub scalars : List ℕ
  pub reads : ReadsScalars scalars_of old new (scalars ++ unmappable)
  pub have_bytes : HaveBytes bytes_of scalars
  pub writes : after ≡ after_writing before (encoded bytes_of scalars)

-- why it ended: nothing is left; something is, but less room than a scalar may need; the scalar has
-- no bytes
abbrev pub EndsEncoding : BytesOf → ℕ → Reading → Writing → EncoderResult → Type 0
EndsEncoding bytes_of max new after InputEmpty = length new.items ≤ new.place
EndsEncoding bytes_of max new after OutputFull = (after.free < max) × (new.place < length new.items)
EndsEncoding bytes_of max new after (Unmappable scalar) = bytes_of scalar ≡ None

-- how many scalars are left
abbrev pub scalars_left : (List ℕ → List ℕ) → Reading → ℕ
scalars_left scalars_of reading = length (scalars_of (left reading))

-- it ended; or it goes on, and fewer scalars are left
abbrev pub EndsOrEncodes : (List ℕ → List ℕ) → BytesOf → ℕ → Reading → Reading → Writing
    → Option EncoderResult → Type 0
EndsOrEncodes scalars_of bytes_of max old new after (Some result) =
    EndsEncoding bytes_of max new after result
EndsOrEncodes scalars_of bytes_of max old new after None =
    scalars_left scalars_of new < scalars_left scalars_of old

-- it ended; or it goes on
abbrev pub EndsEncodingIf : BytesOf → ℕ → Reading → Writing → Option EncoderResult → Type 0
EndsEncodingIf bytes_of max new after (Some result) = EndsEncoding bytes_of max new after result
EndsEncodingIf bytes_of max new after None = Unit {0}

abbrev pub unmappable_if_ends : Option EncoderResult → List ℕ
unmappable_if_ends (Some result) = unmappable_of result
unmappable_if_ends None = []

abbrev pub result_if_err : {T : Type 0} → Result T EncoderResult → Option EncoderResult
result_if_err (Ok scalar) = None
result_if_err (Err result) = Some result

-- the next scalar was read, and can be put back; or none is left
abbrev pub ReadsNext : (List ℕ → List ℕ) → Reading → Reading → ℕ → Option ℕ → Type 0
ReadsNext scalars_of old new before (Some scalar) = ReadsScalars scalars_of old new (scalar ∷ [])
    × (before ≡ old.place) × (old.place < length old.items)
ReadsNext scalars_of old new before None = (new ≡ old) × (length old.items ≤ old.place)

-- the bytes were written; or fewer are free
abbrev pub Writes : Writing → Writing → List ℕ → Bool → Type 0
Writes before after bytes true = after ≡ after_writing before bytes
Writes before after bytes false = (after ≡ before) × (before.free < length bytes)

-- ASCII was read and written, and then a scalar was read where four bytes are free for it
pub record CopiesAscii (scalars_of : List ℕ → List ℕ) (old new : Reading) (before after : Writing)
    (next : Option ℕ) : Type 0 where
  pub ascii : List ℕ
  pub each : All (λ c. c < 0x80) ascii
  pub reads : ReadsScalars scalars_of old new
      (ascii ++ option_map_or (λ scalar. scalar ∷ []) next [])
  pub writes : after ≡ after_writing before ascii
  pub room : IsSome next → 4 ≤ after.free
