-- Text in UTF-8 that is copied in one go, as far as there is room.
use Rattle.std.proofs.Common.{rules, ◌≡◌, ℕ, ◌+◌, ◌-◌, ◌<◌, ◌≤◌, List, [], ◌∷◌, ◌++◌, length, take, drop, refl, sym, ap, ◌∙◌, arith, ⊎_elim, length-drop, length-append}
use Rattle.std.specs.Prelude.{true, encode_utf8, encode_utf8_all}
use Rattle.std.specs.Char.{len_utf8}
use Rattle.std.specs.Str.{chars, IsUtf8, IsCharBoundary}
use Rattle.std.proofs.Math.Seq.{take-append_seam}
use Rattle.std.proofs.lemmas.Bool.{cases_lt}
use Rattle.std.proofs.lemmas.List.{append-nil, length-take-le}
use Rattle.std.proofs.lemmas.Str.{encodes-chars, is_utf8-from_IsUtf8, IsCharBoundary-past_char, IsUtf8-drop, IsUtf8-take, len_utf8_bounds}
use Rattle.enc_handles.specs.declared.results.EncoderResult.{EncoderResult}
use Rattle.enc_handles.specs.declared.results.EncoderResult.TheVariants.{InputEmpty, OutputFull}
use Rattle.enc_handles.specs.Scalars.{is_seam8}
use Rattle.enc_handles.specs.Lemmas.TextLaws.{whole8}
use Rattle.enc_drivers.specs.Encode.{HaveBytes, encoded}
use Rattle.enc_drivers.specs.Encodes.{EncodesRaw, unmappable_of}
use Rattle.enc_drivers.specs.Codes.Utf8.{utf8_bytes_of}

-- what UTF-8 writes of scalars is their text
utf8_encoded : (scalars : List ℕ) → encoded utf8_bytes_of scalars ≡ encode_utf8_all scalars
unfolding utf8_bytes_of
utf8_encoded [] = refl
utf8_encoded (c ∷ cs) = ap (λ (l : List ℕ). encode_utf8 c ++ l) (utf8_encoded cs)

utf8_have_bytes : (scalars : List ℕ) → HaveBytes utf8_bytes_of scalars
unfolding utf8_bytes_of
utf8_have_bytes scalars = search rules

-- the last place up to `room` at which a text may be cut
pub record IsLastCut (text : List ℕ) (room n : ℕ) : Type 0 where
  pub within : n ≤ room
  pub boundary : IsCharBoundary text n
  pub nearest : (i : ℕ) → n < i → i ≤ room → ¬ (IsCharBoundary text i)

-- behind it stands a character, which has at most four bytes
module _ (text : List ℕ) (room n : ℕ) (cut : IsLastCut text room n) (short : n < length text) where
  by_scalars : (scalars : List ℕ) → encode_utf8_all scalars ≡ drop n text → IsUtf8 (drop n text) → room - n < 4
  by_scalars [] e behind = absurd (omega (arith, short, ap length e, length-drop n text))
  by_scalars (c ∷ cs) e behind =
      let next = IsCharBoundary-past_char text (encode_utf8_all cs) n c cut.boundary.0 behind (sym e) in
      let some = (len_utf8_bounds c).0 in
      let few = (len_utf8_bounds c).1 in
      ⊎_elim
      (λ past. omega (arith, past, few))
      (λ within. absurd (cut.nearest (n + len_utf8 c) (omega (arith, some)) within next))
      (cases_lt room (n + len_utf8 c))

  few_free : IsUtf8 text → room - n < 4
  few_free utf8 = let behind = IsUtf8-drop text n utf8 cut.boundary in by_scalars behind.0 behind.1.1 behind

-- the text up to there stands at the front of a buffer that was `old` and is `new`
pub record CopiesText (src old new : List ℕ) (n : ℕ) : Type 0 where
  pub utf8 : IsUtf8 src
  pub cut : IsLastCut src (length old) n
  pub copied : new ≡ take n src ++ drop n old

module _ (src old new : List ℕ) (n : ℕ) (copies : CopiesText src old new n) where
  front : IsUtf8 (take n src)
  front = IsUtf8-take src n copies.utf8 copies.cut.boundary

  seam : is_seam8 src n ≡ true
  seam = is_utf8-from_IsUtf8 (take n src) front

  count : length (take n src) ≡ n
  count = length-take-le n src copies.cut.boundary.0

  writes : take n new ≡ encoded utf8_bytes_of (chars (take n src))
  writes =
      rw copies.copied (ap (λ (k : ℕ). take k (take n src ++ drop n old)) (sym count) ∙ take-append_seam (take n src) (drop n old))
      ∙ sym (utf8_encoded (chars (take n src)) ∙ encodes-chars (take n src) front)

  len : length new ≡ length old
  len = ap length copies.copied ∙ omega (arith, length-append (take n src) (drop n old), length-drop n old, count, copies.cut.within)

  -- the call that ends as is told: InputEmpty where all was copied, OutputFull where some wasn't
  pub copied_raw : (result : EncoderResult) → unmappable_of result ≡ [] → (result ≡ InputEmpty → length src ≤ n) → (result ≡ OutputFull → n < length src)
      → EncodesRaw chars is_seam8 utf8_bytes_of 4 src old new (result, n, n)
  copied_raw result none empty full = record {
    scalars = chars (take n src);
    reads = sym (ap (λ (l : List ℕ). chars (take n src) ++ l) none ∙ append-nil (chars (take n src)));
    have_bytes = utf8_have_bytes (chars (take n src));
    writes = writes;
    whole = whole8 src n seam;
    seam = seam;
    read = copies.cut.boundary.0;
    written = omega (arith, len, copies.cut.within);
    len = len;
    input_empty = λ e. omega (arith, empty e, copies.cut.boundary.0);
    output_full = λ e. let few = few_free src (length old) n copies.cut (full e) copies.utf8 in omega (arith, few, len);
    pending = full;
    unmappable = λ scalar e. absurd cc;
  }
