-- What is written, in UTF-8 and in UTF-16.
use Rattle.std.proofs.Common.{◌≡◌, ℕ, ◌+◌, ◌-◌, ◌<◌, ◌≤◌, List, [], ◌∷◌, ◌++◌, length, take, refl}
use Rattle.std.proofs.Common.{ap, sym, ◌∙◌, arith, length-append}
use Rattle.std.specs.Prelude.{if◌then◌else◌}
use Rattle.std.specs.Char.Escape.{encode_utf16}
use Rattle.std.proofs.lemmas.Bool.Decides.{nat_tests}
use Rattle.std.proofs.lemmas.Grind.{flat_map-append}
use Rattle.std.proofs.lemmas.Str.{length-encode}
use borrow.Rule.Slice.PartMut.{put_mid}
use lib.Utf8.{encode}
use Rattle.enc_handles.specs.declared.results.DecoderResult.{DecoderResult}
use Rattle.enc_handles.specs.declared.results.DecoderResult.TheVariants as result
use Rattle.enc_drivers.specs.declared.unit.Item.{Item}
use Rattle.enc_drivers.specs.declared.unit.Item.TheVariants as item
use Rattle.enc_drivers.specs.Resume.{item_in, text_in, malformed_of}
use Rattle.enc_drivers.specs.Units.{text, item_text}
use Rattle.enc_drivers.proofs.CallLemmas.{text_in_utf_8}
use Rattle.enc_drivers.proofs.UnitLemmas.{text-cons, text_nil}
use Rattle.enc_front.specs.DecoderSteps.{tells_malformed}
use Rattle.enc_front.specs.Output.{Output, utf_8, utf_16, form_of, room_in, replacement_in, text_as}
use Rattle.enc_front.proofs.WriteLemmas.{written_more}

pub text_in_output : (output : Output) (us : List (Item × ℕ))
    → text_in (form_of output) us ≡ text_as output us
text_in_output utf_8 us = text_in_utf_8 us
text_in_output utf_16 us = refl

pub text_as_nil : (output : Output) → text_as output [] ≡ []
text_as_nil utf_8 = text_nil
text_as_nil utf_16 = refl

-- the text of units in a row
pub text_as-append : (output : Output) (a b : List (Item × ℕ))
    → text_as output (a ++ b) ≡ text_as output a ++ text_as output b
unfolding text
text_as-append utf_8 a b = flat_map-append (λ (u : Item × ℕ). item_text u.0) a b
text_as-append utf_16 a b = flat_map-append (λ (u : Item × ℕ). item_in encode_utf16 u.0) a b

pub told_text : (output : Output) (tells : DecoderResult)
    → text_as output (malformed_of tells)
    ≡ (if tells_malformed tells then replacement_in output else [])
unfolding text
told_text utf_8 result.InputEmpty = refl
told_text utf_8 result.OutputFull = refl
told_text utf_8 (result.Malformed n k) = refl
told_text utf_16 result.InputEmpty = refl
told_text utf_16 result.OutputFull = refl
told_text utf_16 (result.Malformed n k) = refl

scalar_short : (c : ℕ) → length (encode_utf16 c) ≤ length (encode c)
scalar_short c = rw (length-encode c) (grind (arith, nat_tests))

item_short : (i : Item) → length (item_in encode_utf16 i) ≤ length (item_text i)
item_short (item.One scalar) = scalar_short scalar
item_short (item.Two first second) =
    omega (
      arith,
      scalar_short first,
      scalar_short second,
      length-append (encode_utf16 first)
          (encode_utf16 second),
      length-append (encode first) (encode second),
    )
item_short item.Malformed = omega arith
item_short item.Silent = omega arith

-- UTF-16 has no more units than UTF-8 has bytes
pub text_as_short : (output : Output) (us : List (Item × ℕ))
    → length (text_as output us) ≤ length (text us)
text_as_short utf_8 us = omega arith
text_as_short utf_16 [] = rw text_nil (omega arith)
text_as_short utf_16 (u ∷ us) =
    rw (text-cons u us, length-append (item_text u.0) (text us))
    (omega (
      arith,
      item_short u.0,
      text_as_short utf_16 us,
      length-append (item_in encode_utf16 u.0)
          (text_in encode_utf16 us),
    ))

pub small_room : (output : Output) → room_in output ≤ 4
small_room utf_8 = omega arith
small_room utf_16 = omega arith

-- U+FFFD fits in the room that any scalar does
pub replacement_fits : (output : Output) → length (replacement_in output) < room_in output
replacement_fits utf_8 = omega arith
replacement_fits utf_16 = omega arith

pub replacement_short : (output : Output) → length (replacement_in output) ≤ 3
replacement_short utf_8 = omega arith
replacement_short utf_16 = omega arith

-- two writes, as numbers
pub values_more : {A : Type 0} (values : List A → List ℕ)
    → ((n : ℕ) (l : List A) → take n (values l) ≡ values (take n l))
    → ((a b : List A) → values (a ++ b) ≡ values a ++ values b) → (from n : ℕ) (dst part : List A)
    → from ≤ length dst → n ≤ length part
    → take (from + n) (values (put_mid from (length dst - from) dst part))
    ≡ take from (values dst) ++ take n (values part)
values_more values takes joins from n dst part within fits =
    takes (from + n) (put_mid from (length dst - from) dst part)
    ∙ (ap values (written_more from n dst part within fits)
    ∙ (joins (take from dst) (take n part)
    ∙ (ap (λ l. l ++ values (take n part)) (sym (takes from dst))
    ∙ ap (λ l. take from (values dst) ++ l) (sym (takes n part)))))

-- as many numbers as elements
module _ {A : Type 0} (values : List A → List ℕ) (same : (l : List A)
    → length (values l) ≡ length l) where
  pub values_within : (m : ℕ) (l : List A) → m ≤ length l → m ≤ length (values l)
  values_within m l h = omega (arith, h, same l)

  pub values_full : (m k : ℕ) (l : List A) → length l - m < k → length (values l) - m < k
  values_full m k l h = omega (arith, h, same l)

  pub values_kept : (a b : List A) → length a ≡ length b → length (values a) ≡ length (values b)
  values_kept a b h = same a ∙ (h ∙ sym (same b))

  pub elements_within : (m : ℕ) (l : List A) → m ≤ length (values l) → m ≤ length l
  elements_within m l h = omega (arith, h, same l)

  pub elements_full : (m k : ℕ) (l : List A) → length (values l) - m < k → length l - m < k
  elements_full m k l h = omega (arith, h, same l)
