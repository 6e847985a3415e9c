-- The text of bytes is UTF-8, and what one call writes that has room for all.
use Rattle.std.proofs.Common.{◌≡◌, ℕ, zero, suc, ◌-◌, ◌<◌, ◌≤◌, Bool, cond, List, [], ◌∷◌, ◌++◌}
use Rattle.std.proofs.Common.{length, drop, refl, ◌∙◌, arith, length-drop}
use Rattle.std.specs.Prelude.{Option, Some, None, take}
use Rattle.std.specs.Str.{IsUtf8}
use Rattle.std.proofs.lemmas.List.{take-take, take-append-le}
use Rattle.std.proofs.lemmas.List.Elements.{All-drop}
use Rattle.std.proofs.lemmas.Str.{IsUtf8-nil, IsUtf8-encode, IsUtf8-append}
use Rattle.enc_handles.specs.declared.results.CoderResult.{CoderResult}
use Rattle.enc_handles.specs.declared.results.CoderResult.TheVariants as coder
use Rattle.enc_drivers.specs.declared.unit.Item.{Item}
use Rattle.enc_drivers.specs.declared.unit.Item.TheVariants as item
use Rattle.enc_drivers.specs.declared.unit.Mode.{Mode}
use Rattle.enc_drivers.specs.Lemmas.Scalars.{scalar_low, scalar_high}
use Rattle.enc_drivers.specs.Units.{Code, IsCode, AreBytes, HasScalars, units, text, item_text}
use Rattle.enc_drivers.proofs.UnitLemmas.{units_nil, units_some, text-cons, text_nil}
use Rattle.enc_front.specs.declared.encoding.Encoding.{Encoding}
use Rattle.enc_front.specs.declared.encoding.Encoding.TheVariants.{Utf8, Utf16Be, Utf16Le}
use Rattle.enc_front.specs.Decoder.{Marks, any_mark, own_mark, no_mark, past_mark}
use Rattle.enc_front.proofs.AsciiLemmas.{replacement_is}

item_utf_8 : (i : Item) → HasScalars i → IsUtf8 (item_text i)
item_utf_8 (item.One scalar) h = IsUtf8-encode scalar h
item_utf_8 (item.Two first second) h =
    IsUtf8-append _ _ (IsUtf8-encode first (scalar_low first (omega (arith, h.0.1))))
    (IsUtf8-encode second (scalar_low second (omega (arith, h.1.1))))
item_utf_8 item.Malformed h =
    rw (← replacement_is) (IsUtf8-encode 0xFFFD (scalar_high 0xFFFD (omega arith) (omega arith)))
item_utf_8 item.Silent h = IsUtf8-nil

module _ (code : Code) (law : IsCode code) where
  pub text_within : (n : ℕ) (mode : Mode) (bytes : List ℕ) → AreBytes bytes → length bytes ≤ n
      → IsUtf8 (text (units code mode bytes))
  text_within n mode [] are h = rw (units_nil code mode, text_nil) IsUtf8-nil
  text_within zero mode (x ∷ bytes) are h = absurd (omega arith)
  text_within (suc n) mode (x ∷ bytes) are h =
      let u = code mode (x ∷ bytes) in
      let each = law.each mode (x ∷ bytes) are (omega arith) in
      let gone : length (drop u.len (x ∷ bytes))
      ≡ length (x ∷ bytes) - u.len = length-drop u.len (x ∷ bytes) in
      let rest = text_within n u.next (drop u.len (x ∷ bytes))
      (All-drop (λ b. b < 256) u.len (x ∷ bytes) are) (omega (arith, each.some)) in
      rw (
        units_some code law mode (x ∷ bytes) are (omega arith),
        text-cons (u.item, u.len)
            (units code u.next (drop u.len (x ∷ bytes))),
      )
      (IsUtf8-append (item_text u.item) (text (units code u.next (drop u.len (x ∷ bytes))))
      (item_utf_8 u.item each.scalars) rest)

-- a mark by the tests for it
abbrev pub found : Bool → Bool → Bool → Option (Encoding × ℕ)
found a b c = cond a (Some (Utf8, 3)) (cond b (Some (Utf16Be, 2)) (cond c (Some (Utf16Le, 2)) None))

own_nothing : (encoding : Encoding) → (past_mark own_mark encoding []).1 ≡ []
unfolding past_mark
own_nothing Utf8 = refl
own_nothing Utf16Be = refl
own_nothing Utf16Le = refl
own_nothing _ = refl

pub nothing_past : (marks : Marks) (encoding : Encoding) → (past_mark marks encoding []).1 ≡ []
unfolding past_mark
nothing_past any_mark encoding = refl
nothing_past own_mark encoding = own_nothing encoding
nothing_past no_mark encoding = refl

pub used_up : (tells : CoderResult) → ¬ (tells ≡ coder.OutputFull) → tells ≡ coder.InputEmpty
used_up coder.InputEmpty ne = refl
used_up coder.OutputFull ne = absurd (ne refl)

-- a front of what was cut to its length
pub truncated : (written room : ℕ) (dst rest : List ℕ) → written ≤ length dst → length dst ≡ room
    → take written (take room (dst ++ rest)) ≡ take written dst
truncated written room dst rest within is = take-take written room (dst ++ rest) (omega arith)
    ∙ take-append-le written dst rest within
