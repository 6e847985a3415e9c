-- What an encode call does, from text in either form (Encoding Standard, section 4.1, encoders with
-- error mode "fatal").
use Rattle.std.specs.Prelude.{◌≡◌, ℕ, ◌-◌, ◌<◌, ◌≤◌, Bool, true, List, [], ◌∷◌, ◌++◌, length, take}
use Rattle.std.specs.Prelude.{drop, None}
use Rattle.enc_handles.specs.declared.results.EncoderResult.{EncoderResult}
use Rattle.enc_handles.specs.declared.results.EncoderResult.TheVariants.{InputEmpty, OutputFull}
use Rattle.enc_handles.specs.declared.results.EncoderResult.TheVariants.{Unmappable}
use Rattle.enc_drivers.specs.Encode.{BytesOf, HaveBytes, encoded}

-- the scalar that an answer names
abbrev pub unmappable_of : EncoderResult → List ℕ
unmappable_of InputEmpty = []
unmappable_of OutputFull = []
unmappable_of (Unmappable scalar) = scalar ∷ []

-- a call on a piece `src` of text with a buffer that was `old` and is `new`; `scalars_of` gives the
-- scalars of a piece, and `is_seam` the places between two of them; the answer is how the call
-- ended, how much of src it read, and how much it wrote. The scalars that were read are those whose
-- bytes were written, and then the one that has none, if one was met.
pub record EncodesRaw (scalars_of : List ℕ → List ℕ) (is_seam : List ℕ → ℕ → Bool)
    (bytes_of : BytesOf) (max : ℕ) (src old new : List ℕ) (answer : EncoderResult × ℕ × ℕ)
    : Type 0 where
  pub scalars : List ℕ
  pub reads : scalars_of (take answer.1 src) ≡ scalars ++ unmappable_of answer.0
  pub have_bytes : HaveBytes bytes_of scalars
  pub writes : take answer.2 new ≡ encoded bytes_of scalars
  pub whole : scalars_of src ≡ scalars_of (take answer.1 src) ++ scalars_of (drop answer.1 src)
  pub seam : is_seam src answer.1 ≡ true
  pub read : answer.1 ≤ length src
  pub written : answer.2 ≤ length new
  pub len : length new ≡ length old
  pub input_empty : answer.0 ≡ InputEmpty → answer.1 ≡ length src
  pub output_full : answer.0 ≡ OutputFull → length new - answer.2 < max
  pub pending : answer.0 ≡ OutputFull → answer.1 < length src
  pub unmappable : (scalar : ℕ) → answer.0 ≡ Unmappable scalar → bytes_of scalar ≡ None
