-- Units that are moved block by block.
use Rattle.std.proofs.Common.{cond, get_or, get_or-take, ◌≡◌, ℕ, zero, suc, ◌+◌, ◌-◌, ◌*◌, ◌<◌, ◌≤◌, inl, inr, Bool, true, false, ◌||◌, Fits, w16, List, [], ◌∷◌, ◌++◌, length, take, drop, refl, sym, ap, ◌∙◌, arith, length-append, length-take, length-drop, take-add}
use Rattle.std.proofs.lemmas.Bool.{cases_lt}
use Rattle.std.proofs.lemmas.Bool.Decides.{nat_tests}
use Rattle.std.proofs.lemmas.Grind.{flat_map-append}
use Rattle.std.proofs.lemmas.List.{append-nil, take-append-drop, take-append-le, take_at, drop_at, drop-drop, get_or-drop}
use Rattle.std.proofs.lemmas.Simd.{take_more_put_chunk, length-put_chunk, Each1-get_or}
use Rattle.std.proofs.lemmas.Bool.{and_from}
use Rattle.std.specs.Borrow.{GName}
use Rattle.std.specs.Char.{IsScalar}
use Rattle.std.specs.Char.Escape.{encode_utf16}
use Rattle.std.specs.List.{list_any}
use lib.Lanes.{Each1, put_chunk}
use lib.Utf8.{encode}
use Rattle.enc_strides.specs.Lanes.{is_surrogate}
use Rattle.enc_strides.specs.Utf8.{Appended}
use Rattle.enc_handles.specs.Copies.{HasRoomBeforeEach, MovesUnits, MovesFrom, MovesScalars}
use Rattle.enc_handles.specs.Rooms.{bmp_fits_utf8}
use Rattle.enc_handles.specs.Utf16.{is_lead, encode_utf16_all, bmp_len, HasScalarAt, WindowFits}
use Rattle.enc_handles.specs.Utf16 as utf16
use Rattle.enc_handles.specs.Utf8.{AreScalars, text_of}
use Rattle.enc_handles.specs.Writing.{Writing, after_writing}
use Rattle.enc_handles.proofs.AsciiLemmas.{written}
use Rattle.enc_handles.proofs.TextLemmas.{Puts-append}

abbrev IsUnit : ℕ → Type 0
IsUnit u = IsScalar u × (u < 0x1_0000)

scalar_of : (u : ℕ) → is_surrogate u ≡ false → u < 0x1_0000 → IsScalar u
scalar_of u clear fits = grind (arith, nat_tests)

neither : (a b : Bool) → (a || b) ≡ false → (a ≡ false) × (b ≡ false)
neither false false e = (refl, refl)
neither false true e = absurd (grind arith)
neither true b e = absurd (grind arith)

-- where no unit is a surrogate, each is a scalar
units_of_block : (xs : List ℕ) → list_any is_surrogate xs ≡ false → Each1 (Fits w16) xs → Each1 IsUnit xs
units_of_block [] clear fits = tt
units_of_block (x ∷ xs) clear fits =
    let both = neither (is_surrogate x) (list_any is_surrogate xs) clear in
    ((scalar_of x both.0 fits.0.fits, fits.0.fits), units_of_block xs both.1 fits.1)

-- the text of the first k of them is short
short_utf8 : (k : ℕ) (xs : List ℕ) → Each1 IsUnit xs → length (text_of encode (take k xs)) ≤ 3 * k
short_utf8 zero xs each = omega arith
short_utf8 (suc k) [] each = omega arith
short_utf8 (suc k) (x ∷ xs) each =
    omega (arith, length-append (encode x) (text_of encode (take k xs)), bmp_fits_utf8 x each.0.0 each.0.1, short_utf8 k xs each.1)

unit_utf16 : (u : ℕ) → u < 0x1_0000 → encode_utf16 u ≡ u ∷ []
unit_utf16 u below = grind (arith, nat_tests)

-- in UTF-16 they are their own text
pub same_utf16 : (xs : List ℕ) → Each1 IsUnit xs → text_of encode_utf16 xs ≡ xs
same_utf16 [] each = refl
same_utf16 (x ∷ xs) each = ap (λ l. l ++ text_of encode_utf16 xs) (unit_utf16 x each.0.1) ∙ ap (λ l. x ∷ l) (same_utf16 xs each.1)

Each1-take : (k : ℕ) (xs : List ℕ) → Each1 IsUnit xs → Each1 IsUnit (take k xs)
Each1-take zero xs each = tt
Each1-take (suc k) [] each = tt
Each1-take (suc k) (x ∷ xs) each = (each.0, Each1-take k xs each.1)

Each1-join : (xs ys : List ℕ) → Each1 IsUnit xs → Each1 IsUnit ys → Each1 IsUnit (xs ++ ys)
Each1-join [] ys each more = more
Each1-join (x ∷ xs) ys each more = (each.0, Each1-join xs ys each.1 more)

pub utf8_moved : (block old new : List ℕ) (at end : ℕ) → false ≡ list_any is_surrogate block → Each1 (Fits w16) block → length block ≡ 8 → at + 28 ≤ length old
    → end ≤ at + 24 → Appended old new at end (text_of encode block) → length new ≡ length old → MovesUnits encode 4 block old new at end
utf8_moved block old new at end clear fits eight room bound done same =
    let each = units_of_block block (sym clear) fits in
    record {
      each = each;
      place = done.place;
      text = record { front = ap (λ n. take n new) (sym done.place) ∙ done.value; same_length = same };
      room = λ k below. omega (arith, short_utf8 k block each, below);
      fits = omega arith;
    }

pub utf16_moved : (block old : List ℕ) (at : ℕ) → false ≡ list_any is_surrogate block → Each1 (Fits w16) block → length block ≡ 8 → at + 8 ≤ length old
    → MovesUnits encode_utf16 0 block old (put_chunk at old block) at (at + 8)
utf16_moved block old at clear fits eight room =
    let each = units_of_block block (sym clear) fits in
    let same = same_utf16 block each in
    record {
      each = each;
      place = omega (arith, ap length same);
      text = record {
        front = ap (λ n. take n (put_chunk at old block)) (omega (arith, ap length same)) ∙ (take_more_put_chunk at old block (at + 8) (omega arith) room ∙ ap (λ l. take at old ++ l) (sym same));
        same_length = length-put_chunk at old block;
      };
      room = λ k below. omega (arith, ap length (same_utf16 (take k block) (Each1-take k block each)), length-take k block, below);
      fits = room;
    }

pub moves_nothing : (form : ℕ → List ℕ) (needed : ℕ) (window old : List ℕ) (at from n : ℕ) → at ≤ length old → from ≤ length window → n ≡ 0 → MovesFrom form needed window old old at from (n, at)
moves_nothing form needed window old at from n place start none = record {
  units = [];
  here = ap (λ k. take k (drop from window)) (sym none);
  within = omega arith;
  moves = record {
    each = tt;
    place = omega arith;
    text = record { front = ap (λ n. take n old) (omega arith) ∙ sym (append-nil (take at old)); same_length = refl };
    room = λ k below. absurd (omega (arith, below));
    fits = place;
  };
}

pub room_on : (form : ℕ → List ℕ) (needed free : ℕ) (xs ys : List ℕ) → HasRoomBeforeEach form needed free xs → length (text_of form xs) ≤ free
    → HasRoomBeforeEach form needed (free - length (text_of form xs)) ys → HasRoomBeforeEach form needed free (xs ++ ys)
room_on form needed free xs ys first few more k below =
    elim (cases_lt k (length xs)) [
      | inl early ↦ rw (take-append-le k xs ys (omega arith)) (first k early)
      | inr late ↦
          let j = k - length xs in
          let split : take k (xs ++ ys) ≡ xs ++ take j ys =
          ap (λ n. take n (xs ++ ys)) (omega arith) ∙ (take-add (length xs) j (xs ++ ys)
          ∙ (ap (λ l. l ++ take j (drop (length xs) (xs ++ ys))) (take_at xs ys (length xs) refl) ∙ ap (λ l. xs ++ take j l) (drop_at xs ys (length xs) refl))) in
          let text : text_of form (take k (xs ++ ys)) ≡ text_of form xs ++ text_of form (take j ys) = ap (text_of form) split ∙ flat_map-append form xs (take j ys) in
          omega (arith, ap length text, length-append (text_of form xs) (text_of form (take j ys)), more j (omega (arith, below, length-append xs ys)))
    ]

units_on : (form : ℕ → List ℕ) (needed : ℕ) (xs ys old now after : List ℕ) (at to end : ℕ) → MovesUnits form needed xs old now at to → MovesUnits form needed ys now after to end
    → MovesUnits form needed (xs ++ ys) old after at end
units_on form needed xs ys old now after at to end first more =
    let text = flat_map-append form xs ys in
    let same = first.text.same_length in
    let left : length old - at - length (text_of form xs) ≡ length now - to = omega (arith, first.place, same) in
    record {
      each = Each1-join xs ys first.each more.each;
      place = omega (arith, first.place, more.place, ap length text, length-append (text_of form xs) (text_of form ys));
      text = rw text (Puts-append old now after at to (text_of form xs) (text_of form ys) first.text first.place more.text);
      room = room_on form needed (length old - at) xs ys first.room (omega (arith, first.fits, first.place))
          (rw left more.room);
      fits = omega (arith, more.fits, same);
    }

-- one more block
pub moves_on : (form : ℕ → List ℕ) (needed : ℕ) (window old now after block : List ℕ) (at from read to end : ℕ) → from ≤ read → read + 8 ≤ length window
    → MovesFrom form needed window old now at from (read - from, to) → block ≡ take 8 (drop read window) → MovesUnits form needed block now after to end
    → MovesFrom form needed window old after at from (read + 8 - from, end)
moves_on form needed window old now after block at from read to end start within first e more =
    let n = read - from in
    let behind : drop n (drop from window) ≡ drop read window = drop-drop n from window ∙ ap (λ k. drop k window) (omega arith) in
    record {
      units = first.units ++ block;
      here = ap (λ l. l ++ block) first.here ∙ (ap (λ l. take n (drop from window) ++ l) (e ∙ ap (take 8) (sym behind))
          ∙ (sym (take-add n 8 (drop from window)) ∙ ap (λ k. take k (drop from window)) (omega arith)));
      within = omega arith;
      moves = units_on form needed first.units block old now after at to end first.moves more;
    }

are_scalars : (xs : List ℕ) → Each1 IsUnit xs → AreScalars xs
are_scalars [] each = refl
are_scalars (x ∷ xs) each = and_from _ _ each.0.0 (are_scalars xs each.1)

no_lead : (u : ℕ) → IsScalar u → is_lead u ≡ false
no_lead u scalar = grind (arith, nat_tests)

-- units that a slice moved
pub moves_row : (form : ℕ → List ℕ) (needed : ℕ) (window old new : List ℕ) (at read : ℕ) (moved : ℕ × ℕ) (b b' : GName)
    → MovesFrom form needed window old new at read moved → 0 < moved.0 → b' ≡ b
    → MovesScalars form needed window (record { text = take at old; free = length old - at; buffer = b }) (record { text = take moved.1 new; free = length new - moved.1; buffer = b' }) read (read + moved.0)
moves_row form needed window old new at read moved b b' m some same_buffer =
    let units = m.units in
    let each = m.moves.each in
    let count : length units ≡ moved.0 = ap length m.here ∙ (length-take moved.0 (drop read window) ∙ omega (arith, length-drop read window, m.within)) in
    let same = same_utf16 units each in
    let last : get_or window (read + moved.0 - 1) 0 ≡ get_or units (moved.0 - 1) 0 =
    ap (λ k. get_or window k 0) (omega arith) ∙ (sym (get_or-drop read window (moved.0 - 1) 0)
    ∙ (sym (get_or-take moved.0 (drop read window) (moved.0 - 1) 0 (omega arith)) ∙ ap (λ l. get_or l (moved.0 - 1) 0) (sym m.here))) in
    let scalar = Each1-get_or IsUnit units (moved.0 - 1) 0 (omega (arith, count)) each in
    record {
      scalars = units;
      each = are_scalars units each;
      units = take-add read moved.0 window ∙ ap (λ l. take read window ++ l) (sym m.here ∙ sym same);
      count = omega (arith, ap length same, count);
      some = omega arith;
      within = m.within;
      end = ap (λ u. is_lead u) last ∙ no_lead (get_or units (moved.0 - 1) 0) scalar.0;
      written = written old new (text_of form units) (text_of form units) at moved.1 b b' m.moves.text m.moves.place same_buffer refl;
      fits = omega (arith, m.moves.fits, m.moves.place);
      room = m.moves.room;
    }

has_units : (c : ℕ) → 0 < length (encode_utf16 c)
has_units c = grind (arith, nat_tests)

-- one scalar
pub moves_scalar : (form : ℕ → List ℕ) (needed : ℕ) (window : List ℕ) (w w' : Writing) (read c n : ℕ) → HasScalarAt window read c n → w' ≡ after_writing w (form c)
    → length (form c) ≤ w.free → needed ≤ w.free → MovesScalars form needed window w w' read (read + n)
moves_scalar form needed window w w' read c n here done few enough =
    let units : encode_utf16_all (c ∷ []) ≡ encode_utf16 c = append-nil (encode_utf16 c) in
    let text : text_of form (c ∷ []) ≡ form c = append-nil (form c) in
    record {
      scalars = c ∷ [];
      each = and_from _ _ here.is_scalar refl;
      units = here.front ∙ ap (λ l. take read window ++ l) (sym units);
      count = omega (arith, here.count, ap length units);
      some = omega (arith, here.count, has_units c);
      within = here.within;
      end = here.end;
      written = done ∙ ap (λ t. after_writing w t) (sym text);
      fits = omega (arith, ap length text);
      room = λ k below. let first : k ≡ 0 = omega (arith, below) in rw first (omega arith);
    }

-- the next scalar has room
pub scalar_fits : (form : ℕ → List ℕ) (window : List ℕ) (needed free read c n : ℕ) → WindowFits form needed (drop read window) free → HasScalarAt window read c n → needed ≤ free → length (form c) ≤ free
scalar_fits form window needed free read c n (inl any) here enough = let fit = any c here.is_scalar in omega arith
scalar_fits form window needed free read c n (inr same) here enough =
    omega (arith, same.0 c, same.1, here.count, here.within, length-drop read window)

-- nothing was moved
pub moves_none : (form : ℕ → List ℕ) (needed : ℕ) (window old new : List ℕ) (at read : ℕ) (moved : ℕ × ℕ) (b b' : GName)
    → MovesFrom form needed window old new at read moved → moved.0 ≡ 0 → at ≤ length old → b' ≡ b
    → ◌≡◌ {A = Writing} (record { text = take at new; free = length new - at; buffer = b' }) (record { text = take at old; free = length old - at; buffer = b })
moves_none form needed window old new at read moved b b' m zero_moved place same_buffer =
    let none : m.units ≡ [] = m.here ∙ ap (λ k. take k (drop read window)) zero_moved in
    let text : text_of form m.units ≡ [] = ap (text_of form) none in
    let front : take at new ≡ take at old =
    ap (λ n. take n new) (omega (arith, ap length text)) ∙ (m.moves.text.front ∙ (ap (λ l. take at old ++ l) text ∙ append-nil (take at old))) in
    let same = m.moves.text.same_length in
    cc

no_surrogate : (u : ℕ) → IsScalar u → utf16.is_surrogate u ≡ false
no_surrogate u scalar = grind (arith, nat_tests)

-- units at the front, none of which is a surrogate
front_of_bmp : (xs ys : List ℕ) → Each1 IsUnit xs → length xs + bmp_len ys ≡ bmp_len (xs ++ ys)
front_of_bmp [] ys each = omega arith
front_of_bmp (x ∷ xs) ys each =
    let rest = front_of_bmp xs ys each.1 in
    omega arith ∙ ap (λ (t : Bool). cond t 0 (bmp_len (xs ++ ys) + 1)) (sym (no_surrogate x each.0.0))

pub bmp_front : (window old new : List ℕ) (moved : ℕ × ℕ) → MovesFrom encode_utf16 0 window old new 0 0 moved
    → (moved.0 ≤ length window) × (moved.0 + bmp_len (drop moved.0 window) ≡ bmp_len window) × (take moved.0 new ≡ take moved.0 window)
bmp_front window old new moved m =
    let each = m.moves.each in
    let count : length m.units ≡ moved.0 = ap length m.here ∙ (length-take moved.0 window ∙ omega (arith, m.within)) in
    let same = same_utf16 m.units each in
    let whole : m.units ++ drop moved.0 window ≡ window = ap (λ l. l ++ drop moved.0 window) m.here ∙ take-append-drop moved.0 window in (
      omega (arith, m.within),
      ap (λ n. n + bmp_len (drop moved.0 window)) (sym count) ∙ (front_of_bmp m.units (drop moved.0 window) each ∙ ap (λ l. bmp_len l) whole),
      ap (λ n. take n new) (omega (arith, ap length same, count)) ∙ (m.moves.text.front ∙ (same ∙ m.here)),
    )
