-- A copy of well-formed sequences, one sequence at a time.
use Rattle.std.proofs.Common.{take, subst, length-take, ◌≡◌, ℕ, ◌+◌, ◌-◌, ◌<◌, ◌≤◌, List, [], ◌∷◌, ◌++◌, length, drop, refl, sym, ap, ◌∙◌, arith, append_assoc, length-append}
use Rattle.std.proofs.lemmas.Bool.{and_from, and_parts}
use Rattle.std.proofs.lemmas.Grind.{flat_map-append}
use Rattle.std.proofs.lemmas.List.{append-nil}
use Rattle.std.proofs.lemmas.Str.{encodes-append}
use Rattle.std.specs.Char.{IsScalar}
use Rattle.std.specs.Str.{IsUtf8}
use borrow.Rule.Slice.PartMut.{put_mid}
use lib.Utf8.{encode, encodes}
use Rattle.enc_handles.specs.Copies.{Copied, MovesFront, CopiesUtf8}
use Rattle.enc_handles.specs.Reading.{Reading, left, after_reading}
use Rattle.enc_handles.specs.Utf8.{AreScalars, text_of, IsFittingFront, sequence_len}
use Rattle.enc_handles.specs.Writing.{Writing, after_writing}
use Rattle.enc_handles.proofs.Longest.{begins-split, begins-from, longest-none, longest-full}
use Rattle.enc_handles.proofs.LoopLemmas.{after_reading-add, left-after_reading, after_writing-append}
use Rattle.enc_handles.proofs.PutLemmas.{puts_behind}
use Rattle.enc_handles.proofs.Sequences.{encode-sequence}

pub copied_none : (form : ℕ → List ℕ) (r : Reading) (w : Writing) → Copied form r r w w []
copied_none form r w = record {
  each = refl;
  rest = refl;
  read = ap (λ (p : ℕ). record r { place = p }) (omega arith);
  written =
      let text : w.text ≡ w.text ++ [] = sym (append-nil w.text) in
      let free : w.free ≡ w.free - 0 = omega arith in
      ap (λ (t : List ℕ). record w { text = t }) text ∙ ap (λ (n : ℕ). record w { text = w.text ++ []; free = n }) free;
  room = omega arith;
}

pub are_scalars-join : (xs ys : List ℕ) → AreScalars xs → AreScalars ys → AreScalars (xs ++ ys)
are_scalars-join [] ys first more = more
are_scalars-join (x ∷ xs) ys first more = let parts = and_parts _ _ first in and_from _ _ parts.0 (are_scalars-join xs ys parts.1 more)

pub are_scalars-push : (cs : List ℕ) (c : ℕ) → AreScalars cs → IsScalar c → AreScalars (cs ++ c ∷ [])
are_scalars-push [] c h s = and_from _ _ s refl
are_scalars-push (x ∷ xs) c h s = let parts = and_parts _ _ h in and_from _ _ parts.0 (are_scalars-push xs c parts.1 s)

pub copied_more : (form : ℕ → List ℕ) (r₀ r r' : Reading) (w₀ w w' : Writing) (scalars : List ℕ) (c len : ℕ) → Copied form r₀ r w₀ w scalars
    → IsScalar c → length (encode c) ≡ len → left r ≡ encode c ++ drop len (left r)
    → r' ≡ after_reading r len → w' ≡ after_writing w (form c) → length (form c) ≤ w.free
    → Copied form r₀ r' w₀ w' (scalars ++ c ∷ [])
copied_more form r₀ r r' w₀ w w' scalars c len so_far scalar count front read written fits =
    let bytes : encodes (scalars ++ c ∷ []) ≡ encodes scalars ++ encode c =
    encodes-append scalars (c ∷ []) ∙ ap (λ (l : List ℕ). encodes scalars ++ l) (append-nil (encode c)) in
    let text : text_of form (scalars ++ c ∷ []) ≡ text_of form scalars ++ form c =
    flat_map-append form scalars (c ∷ []) ∙ ap (λ (l : List ℕ). text_of form scalars ++ l) (append-nil (form c)) in
    let longer : length (text_of form (scalars ++ c ∷ [])) ≡ length (text_of form scalars) + length (form c) =
    ap length text ∙ length-append (text_of form scalars) (form c) in
    let further : length (encodes (scalars ++ c ∷ [])) ≡ length (encodes scalars) + len =
    ap length bytes ∙ (length-append (encodes scalars) (encode c) ∙ ap (λ n. length (encodes scalars) + n) count) in
    let here : left r' ≡ drop len (left r) = ap left read ∙ left-after_reading r len in
    let free : w'.free ≡ w.free - length (form c) = ap (λ (v : Writing). v.free) written in
    record {
      each = are_scalars-push scalars c so_far.each scalar;
      rest =
          so_far.rest ∙ (ap (λ (l : List ℕ). encodes scalars ++ l) (front ∙ ap (λ (l : List ℕ). encode c ++ l) (sym here))
          ∙ (sym (append_assoc (encodes scalars) (encode c) (left r')) ∙ ap (λ (l : List ℕ). l ++ left r') (sym bytes)));
      read = read ∙ (ap (λ v. after_reading v len) so_far.read ∙ (after_reading-add r₀ (length (encodes scalars)) len ∙ ap (after_reading r₀) (sym further)));
      written = written ∙ (ap (λ v. after_writing v (form c)) so_far.written ∙ (after_writing-append w₀ (text_of form scalars) (form c) ∙ ap (after_writing w₀) (sym text)));
      room = omega (arith, so_far.room);
    }

fitting : (form : ℕ → List ℕ) (r₀ r : Reading) (w₀ w : Writing) (scalars : List ℕ) → Copied form r₀ r w₀ w scalars → IsFittingFront form (left r₀) w₀.free scalars
fitting form r₀ r w₀ w scalars so_far = record {
  each = so_far.each;
  front = begins-from scalars (left r₀) (left r) so_far.rest;
  fits = omega (arith, so_far.room);
}

-- no sequence is next
pub copies_none : (form : ℕ → List ℕ) (r₀ r : Reading) (w₀ w : Writing) (scalars : List ℕ) → Copied form r₀ r w₀ w scalars
    → sequence_len (left r) ≡ 0 → CopiesUtf8 form r₀ r w₀ w
copies_none form r₀ r w₀ w scalars so_far none = record {
  scalars = scalars;
  longest = longest-none form (left r₀) scalars (left r) w₀.free (fitting form r₀ r w₀ w scalars so_far) so_far.rest
      (λ d tail scalar here. let some = encode-sequence d tail scalar in let same : sequence_len (left r) ≡ sequence_len (encode d ++ tail) = ap sequence_len here in omega arith);
  read = so_far.read;
  written = so_far.written;
}

-- the text of the next sequence doesn't fit
pub copies_full : (form : ℕ → List ℕ) (r₀ r : Reading) (w₀ w : Writing) (scalars : List ℕ) (c : ℕ) (tail : List ℕ) → Copied form r₀ r w₀ w scalars
    → left r ≡ encode c ++ tail → w.free < length (form c) → CopiesUtf8 form r₀ r w₀ w
copies_full form r₀ r w₀ w scalars c tail so_far next full = record {
  scalars = scalars;
  longest = longest-full form (left r₀) scalars (left r) w₀.free c tail (fitting form r₀ r w₀ w scalars so_far) so_far.rest next (omega (arith, so_far.room));
  read = so_far.read;
  written = so_far.written;
}

-- after a front was moved
pub copied_front : (form : ℕ → List ℕ) (r r' : Reading) (w w' : Writing) (bytes old new : List ℕ) (at : ℕ) (moved : ℕ × ℕ) (h : MovesFront form bytes old new at moved)
    → left r ≡ bytes → r' ≡ after_reading r moved.0 → w' ≡ after_writing w (text_of form h.scalars) → w.free ≡ length old - at → Copied form r r' w w' h.scalars
copied_front form r r' w w' bytes old new at moved h window read written free =
    let count = length (encodes h.scalars) in
    let seen : r' ≡ after_reading r count = read ∙ ap (after_reading r) h.read in
    let here : left r' ≡ drop count bytes = ap left seen ∙ (left-after_reading r count ∙ ap (drop count) window) in
    let fits = h.fitting.fits in
    record {
      each = h.fitting.each;
      rest = window ∙ (begins-split h.scalars bytes h.fitting.front ∙ ap (λ (l : List ℕ). encodes h.scalars ++ l) (sym here));
      read = seen;
      written = written;
      room = omega (arith, ap (λ (v : Writing). v.free) written);
    }

pub moved-le : (form : ℕ → List ℕ) (bytes old new : List ℕ) (at : ℕ) (moved : ℕ × ℕ) → MovesFront form bytes old new at moved → moved.0 ≤ length bytes
moved-le form bytes old new at moved h = omega (arith, h.read, ap length h.fitting.front, length-take (length (encodes h.scalars)) bytes)

utf8_text : (cs : List ℕ) → text_of encode cs ≡ encodes cs
utf8_text [] = refl
utf8_text (c ∷ cs) = ap (λ (l : List ℕ). encode c ++ l) (utf8_text cs)

-- UTF-8 that was written into the part behind a place
pub moves_utf8 : (bytes old ys : List ℕ) (at n : ℕ) → at ≤ length old → length ys ≡ length old - at → n ≤ length ys → n ≤ length bytes
    → IsUtf8 (take n bytes) → take n ys ≡ take n bytes → MovesFront encode bytes old (put_mid at (length old - at) old ys) at (n, at + n)
moves_utf8 bytes old ys at n within same few inside whole copied =
    let scalars = whole.0 in
    let text = utf8_text scalars in
    let count : length (encodes scalars) ≡ n = ap length whole.1.1 ∙ (length-take n bytes ∙ omega arith) in
    let spelt : length (text_of encode scalars) ≡ n = ap length text ∙ count in
    record {
      scalars = scalars;
      fitting = record {
        each = whole.1.0;
        front = subst (λ k. take k bytes ≡ encodes scalars) (sym count) (sym whole.1.1);
        fits = omega (arith, spelt);
      };
      read = sym count;
      end = omega (arith, spelt);
      text = puts_behind old ys (text_of encode scalars) at within same (omega (arith, spelt))
          (subst (λ k. take k ys ≡ text_of encode scalars) (sym spelt) (copied ∙ (sym whole.1.1 ∙ sym text)));
    }
