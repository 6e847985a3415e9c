-- What an encode call does, from what its loop does.
use Rattle.std.proofs.Common.{◌≡◌, ℕ, ◌-◌, ◌<◌, ◌≤◌, Bool, true, List, [], ◌++◌, length, take, drop, ap, sym, ◌∙◌, arith}
use Rattle.std.specs.Prelude.{None}
use Rattle.std.proofs.lemmas.List.{length-take-le}
use Rattle.enc_handles.specs.declared.results.EncoderResult.{EncoderResult}
use Rattle.enc_handles.specs.declared.results.EncoderResult.TheVariants.{InputEmpty, OutputFull, Unmappable}
use Rattle.enc_handles.specs.Reading.{Reading}
use Rattle.enc_handles.specs.Writing.{Writing}
use Rattle.enc_drivers.specs.Encode.{BytesOf, encoded}
use Rattle.enc_drivers.specs.Encodes.{EncodesRaw, unmappable_of}
use Rattle.enc_drivers.specs.Encoding.{Encodes, EndsEncoding}

-- how the call ended, for each answer
ends_empty : (bytes_of : BytesOf) (max : ℕ) (new : Reading) (after : Writing) (result : EncoderResult) → EndsEncoding bytes_of max new after result → result ≡ InputEmpty → length new.items ≤ new.place
ends_empty bytes_of max new after InputEmpty e is = e
ends_empty bytes_of max new after OutputFull e is = absurd cc
ends_empty bytes_of max new after (Unmappable c) e is = absurd cc

ends_full : (bytes_of : BytesOf) (max : ℕ) (new : Reading) (after : Writing) (result : EncoderResult) → EndsEncoding bytes_of max new after result → result ≡ OutputFull
    → (after.free < max) × (new.place < length new.items)
ends_full bytes_of max new after InputEmpty e is = absurd cc
ends_full bytes_of max new after OutputFull e is = e
ends_full bytes_of max new after (Unmappable c) e is = absurd cc

ends_unmappable : (bytes_of : BytesOf) (max : ℕ) (new : Reading) (after : Writing) (result : EncoderResult) → EndsEncoding bytes_of max new after result → (scalar : ℕ) → result ≡ Unmappable scalar → bytes_of scalar ≡ None
ends_unmappable bytes_of max new after InputEmpty e scalar is = absurd cc
ends_unmappable bytes_of max new after OutputFull e scalar is = absurd cc
ends_unmappable bytes_of max new after (Unmappable c) e scalar is = let same : c ≡ scalar = cc in rw (← same) e

-- what a source and a destination over a piece and a buffer show of a call: the buffer holds the bytes up to place `at`
pub record Shows (src held : List ℕ) (at read written : ℕ) (start end : Reading) (before after : Writing) : Type 0 where
  pub start_is : start ≡ record { items = src; place = 0 }
  pub read_is : read ≡ end.place
  pub read_within : read ≤ length end.items
  pub before_is : before.text ≡ []
  pub at_within : at ≤ length held
  pub written_is : written ≡ length (take at held)
  pub text : after.text ≡ take at held
  pub free : after.free ≡ length held - at

pub encodes_raw : (scalars_of : List ℕ → List ℕ) (is_seam : List ℕ → ℕ → Bool) (bytes_of : BytesOf) (max : ℕ)
    → scalars_of [] ≡ [] → ((elements : List ℕ) (n : ℕ) → is_seam elements n ≡ true → scalars_of elements ≡ scalars_of (take n elements) ++ scalars_of (drop n elements))
    → (src old new held : List ℕ) (result : EncoderResult) (at read written : ℕ) (start end : Reading) (before after : Writing)
    → Shows src held at read written start end before after → is_seam end.items read ≡ true → new ≡ held → length new ≡ length old
    → Encodes scalars_of bytes_of start end before after (unmappable_of result) → EndsEncoding bytes_of max end after result
    → EncodesRaw scalars_of is_seam bytes_of max src old new (result, read, written)
encodes_raw scalars_of is_seam bytes_of max none whole src old new held result at read written start end before after shows seam same len goes ends =
    let items : end.items ≡ src = goes.reads.same_items ∙ ap (λ (r : Reading). r.items) shows.start_is in
    let here : is_seam src read ≡ true = ap (λ (l : List ℕ). is_seam l read) (sym items) ∙ seam in
    let count : length end.items ≡ length src = ap length items in
    let new_len : length new ≡ length held = ap length same in
    let so_many : written ≡ at = shows.written_is ∙ length-take-le at held shows.at_within in
    record {
      scalars = goes.scalars;
      reads =
          ap (λ (n : ℕ). scalars_of (take n src)) shows.read_is
          ∙ ap (λ (l : List ℕ). scalars_of (take end.place l)) (sym items) ∙ goes.reads.read
          ∙ ap (λ (r : Reading). scalars_of (take r.place r.items) ++ (goes.scalars ++ unmappable_of result)) shows.start_is
          ∙ ap (λ (l : List ℕ). l ++ (goes.scalars ++ unmappable_of result)) none;
      have_bytes = goes.have_bytes;
      writes =
          ap (λ (n : ℕ). take n new) so_many ∙ ap (λ (l : List ℕ). take at l) same
          ∙ sym shows.text ∙ ap (λ (w : Writing). w.text) goes.writes
          ∙ ap (λ (l : List ℕ). l ++ encoded bytes_of goes.scalars) shows.before_is;
      whole = whole src read here;
      seam = here;
      read = omega (arith, shows.read_within);
      written = omega (arith, shows.at_within);
      len = len;
      input_empty = λ e. let k = ends_empty bytes_of max end after result ends e in omega (arith, shows.read_within, shows.read_is);
      output_full = λ e. let k = ends_full bytes_of max end after result ends e in omega (arith, k.0, shows.free);
      pending = λ e. let k = ends_full bytes_of max end after result ends e in omega (arith, k.1, shows.read_is);
      unmappable = λ scalar e. ends_unmappable bytes_of max end after result ends scalar e;
    }
