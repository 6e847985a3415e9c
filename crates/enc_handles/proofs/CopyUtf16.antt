-- A copy of code units, one scalar at a time.
use Rattle.std.proofs.Common.{◌≡◌, ℕ, ◌+◌, ◌-◌, ◌*◌, ◌/◌, ◌<◌, ◌≤◌, Bool, true, false, cond, ltb, Some, None, length-take, List, [], ◌∷◌, ◌++◌, length, length-drop, take, drop, get_or, refl, sym, ap, ◌∙◌, arith, length-append, ◌&&◌, ◌⊎◌, ⊎_elim, inl, inr}
use Rattle.std.proofs.lemmas.Bool.{and_right}
use Rattle.std.proofs.lemmas.Grind.{flat_map-append}
use Rattle.std.proofs.lemmas.List.{append-nil}
use Rattle.std.specs.Char.Escape.{encode_utf16}
use Rattle.enc_handles.specs.Copies.{HasRoomBeforeEach, CopiesUnits, CopiesUtf16, MovesScalars}
use Rattle.enc_handles.specs.Reading.{Reading, after_reading}
use Rattle.enc_handles.specs.Utf16.{is_lead, code_units, without_last_lead, utf16_window, TakesWhatFits, encode_utf16_all, BeginsNoPair, WindowFits}
use Rattle.enc_handles.specs.Utf8.{AreScalars, text_of}
use Rattle.enc_handles.specs.Writing.{Writing, after_writing}
use Rattle.enc_handles.proofs.CodeUnits.{length-code_units}
use Rattle.enc_handles.proofs.BlockLemmas.{room_on}
use Rattle.enc_handles.proofs.CopyUtf8.{are_scalars-join}
use Rattle.enc_handles.proofs.LoopLemmas.{after_writing-append}
use Rattle.enc_handles.proofs.Surrogates.{unpaired}

-- these scalars were copied so far
pub record Copied16 (form : ℕ → List ℕ) (window : List ℕ) (needed : ℕ) (w₀ w : Writing) (read : ℕ) (scalars : List ℕ) : Type 0 where
  pub each : AreScalars scalars
  pub front : take read window ≡ encode_utf16_all scalars
  pub count : read ≡ length (encode_utf16_all scalars)
  pub within : read ≤ length window
  pub before : (ltb 0 read && is_lead (get_or window (read - 1) 0)) ≡ false
  pub written : w ≡ after_writing w₀ (text_of form scalars)
  pub room : length (text_of form scalars) + w.free ≡ w₀.free
  pub enough : HasRoomBeforeEach form needed w₀.free scalars

pub copied16_none : (form : ℕ → List ℕ) (window : List ℕ) (needed : ℕ) (w : Writing) → Copied16 form window needed w w 0 []
copied16_none form window needed w = record {
  each = refl;
  front = refl;
  count = refl;
  within = omega arith;
  before = refl;
  written =
      let text : w.text ≡ w.text ++ [] = sym (append-nil w.text) in
      let free : w.free ≡ w.free - 0 = omega arith in
      ap (λ (t : List ℕ). record w { text = t }) text ∙ ap (λ (n : ℕ). record w { text = w.text ++ []; free = n }) free;
  room = omega arith;
  enough = λ k below. absurd (omega (arith, below));
}

pub copied16_on : (form : ℕ → List ℕ) (window : List ℕ) (needed : ℕ) (w₀ w w' : Writing) (read next : ℕ) (scalars : List ℕ)
    → Copied16 form window needed w₀ w read scalars → (moved : MovesScalars form needed window w w' read next)
    → Copied16 form window needed w₀ w' next (scalars ++ moved.scalars)
copied16_on form window needed w₀ w w' read next scalars so_far moved =
    let more = moved.scalars in
    let units : encode_utf16_all (scalars ++ more) ≡ encode_utf16_all scalars ++ encode_utf16_all more = flat_map-append encode_utf16 scalars more in
    let text : text_of form (scalars ++ more) ≡ text_of form scalars ++ text_of form more = flat_map-append form scalars more in
    let longer : length (text_of form (scalars ++ more)) ≡ length (text_of form scalars) + length (text_of form more) =
    ap length text ∙ length-append (text_of form scalars) (text_of form more) in
    let further : length (encode_utf16_all (scalars ++ more)) ≡ length (encode_utf16_all scalars) + length (encode_utf16_all more) =
    ap length units ∙ length-append (encode_utf16_all scalars) (encode_utf16_all more) in
    let free : w'.free ≡ w.free - length (text_of form more) = ap (λ (v : Writing). v.free) moved.written in
    let left : w₀.free - length (text_of form scalars) ≡ w.free = omega (arith, so_far.room) in
    record {
      each = are_scalars-join scalars more so_far.each moved.each;
      front = moved.units ∙ (ap (λ (l : List ℕ). l ++ encode_utf16_all more) so_far.front ∙ sym units);
      count = omega (arith, so_far.count, moved.count);
      within = moved.within;
      before = and_right (ltb 0 next) (is_lead (get_or window (next - 1) 0)) moved.end;
      written = moved.written ∙ (ap (λ v. after_writing v (text_of form more)) so_far.written ∙ (after_writing-append w₀ (text_of form scalars) (text_of form more) ∙ ap (after_writing w₀) (sym text)));
      room = omega (arith, so_far.room, moved.fits);
      enough = room_on form needed w₀.free scalars more so_far.enough (omega (arith, so_far.room)) (rw left moved.room);
    }

same_length : (form : ℕ → List ℕ) → ((c : ℕ) → length (form c) ≡ length (encode_utf16 c)) → (cs : List ℕ) → length (text_of form cs) ≡ length (encode_utf16_all cs)
same_length form same [] = refl
same_length form same (c ∷ cs) =
    omega (arith, same_length form same cs, same c, length-append (form c) (text_of form cs), length-append (encode_utf16 c) (encode_utf16_all cs))

-- what is left of the window fits what is left of the room
pub rest_fits : (form : ℕ → List ℕ) (window : List ℕ) (needed : ℕ) (w₀ w : Writing) (read : ℕ) (scalars : List ℕ)
    → WindowFits form needed window w₀.free → Copied16 form window needed w₀ w read scalars → WindowFits form needed (drop read window) w.free
rest_fits form window needed w₀ w read scalars (inl any) so_far = inl any
rest_fits form window needed w₀ w read scalars (inr same) so_far =
    inr (same.0, omega (arith, same_length form same.0 scalars, same.1, so_far.room, so_far.count, length-drop read window))

-- the three ends
pub ends_window : (form : ℕ → List ℕ) (window : List ℕ) (needed : ℕ) (w₀ w : Writing) (read : ℕ) (scalars : List ℕ) → Copied16 form window needed w₀ w read scalars
    → (read ≡ length window) ⊎ (w.free < needed) → CopiesUnits form window needed w₀ w read false
ends_window form window needed w₀ w read scalars so_far cause = record {
  scalars = scalars;
  each = so_far.each;
  front = rw (← so_far.count) so_far.front;
  room = so_far.enough;
  written = so_far.written;
  within = so_far.within;
  stopped = (so_far.count, cause);
}

pub ends_unpaired : (form : ℕ → List ℕ) (window : List ℕ) (needed : ℕ) (w₀ w : Writing) (read : ℕ) (scalars : List ℕ) → Copied16 form window needed w₀ w read scalars
    → read < length window → needed ≤ w.free → BeginsNoPair window read → CopiesUnits form window needed w₀ w (read + 1) true
ends_unpaired form window needed w₀ w read scalars so_far below enough here = record {
  scalars = scalars;
  each = so_far.each;
  front = rw (← so_far.count) so_far.front;
  room = so_far.enough;
  written = so_far.written;
  within = omega arith;
  stopped = (ap (λ n. n + 1) so_far.count, (rw (← so_far.count) (unpaired window read here so_far.before), enough));
}

-- the units that the copy works on are the window
pub window_is : (taken : ℕ → ℕ → ℕ) (big : Bool) (bytes rest u v : List ℕ) (room count : ℕ)
    → u ≡ without_last_lead v → v ≡ take count (code_units big bytes) → count ≡ taken room (length bytes / 2) → bytes ≡ rest
    → u ≡ utf16_window taken room (code_units big rest)
window_is taken big bytes rest u v room count trimmed units taking same =
    let all : count ≡ taken room (length (code_units big bytes)) = taking ∙ ap (taken room) (sym (length-code_units big bytes)) in
    trimmed ∙ (ap (λ (l : List ℕ). without_last_lead l) (units ∙ ap (λ (n : ℕ). take n (code_units big bytes)) all)
    ∙ ap (λ (l : List ℕ). utf16_window taken room (code_units big l)) same)

shorter : (t : Bool) (n : ℕ) (us : List ℕ) → length (cond t (take n us) us) ≤ length us
shorter true n us = omega (arith, length-take n us)
shorter false n us = omega arith

-- no more of them are taken than fit
pub window_fits : (form : ℕ → List ℕ) (needed : ℕ) (taken : ℕ → ℕ → ℕ) (room count most : ℕ) (u v xs : List ℕ)
    → TakesWhatFits form needed taken → u ≡ without_last_lead v → v ≡ take count xs → count ≡ taken room most → WindowFits form needed u room
window_fits form needed taken room count most u v xs (inl any) trimmed units taking = inl any
window_fits form needed taken room count most u v xs (inr fits) trimmed units taking =
    inr (fits.0, omega (arith, ap length trimmed, shorter (is_lead (get_or v (length v - 1) 0)) (length v - 1) v, ap length units, length-take count xs, taking, fits.1 room most))

pub copies16_none : (form : ℕ → List ℕ) (window : List ℕ) (needed : ℕ) (r r' : Reading) (w₀ w : Writing) (read : ℕ)
    → CopiesUnits form window needed w₀ w read false → r' ≡ after_reading r (2 * read) → CopiesUtf16 form window needed r r' w₀ w None
copies16_none form window needed r r' w₀ w read units moved = record {
  scalars = units.scalars;
  each = units.each;
  front = units.front;
  room = units.room;
  written = units.written;
  stopped = record {
    read = moved ∙ ap (λ (n : ℕ). after_reading r (2 * n)) units.stopped.0;
    cause = ⊎_elim (λ whole. inl (sym units.stopped.0 ∙ whole)) (λ short. inr short) units.stopped.1;
  };
}

pub copies16_some : (form : ℕ → List ℕ) (window : List ℕ) (needed : ℕ) (r r' : Reading) (w₀ w : Writing) (read : ℕ) (places : ℕ × ℕ)
    → CopiesUnits form window needed w₀ w read true → r' ≡ after_reading r (2 * read) → places.0 ≡ r'.place → places.1 ≡ length w.text
    → CopiesUtf16 form window needed r r' w₀ w (Some places)
copies16_some form window needed r r' w₀ w read places units moved source destination = record {
  scalars = units.scalars;
  each = units.each;
  front = units.front;
  room = units.room;
  written = units.written;
  stopped = record {
    read = moved ∙ ap (λ (n : ℕ). after_reading r (2 * n)) units.stopped.0;
    within = omega (arith, units.within, units.stopped.0);
    unpaired = units.stopped.1.0;
    room = units.stopped.1.1;
    source_place = source;
    destination_place = destination;
  };
}

pub window_le : (count : ℕ) (u v xs : List ℕ) → u ≡ without_last_lead v → v ≡ take count xs → length u ≤ count
window_le count u v xs trimmed units =
    omega (arith, ap length trimmed, shorter (is_lead (get_or v (length v - 1) 0)) (length v - 1) v, ap length units, length-take count xs)
