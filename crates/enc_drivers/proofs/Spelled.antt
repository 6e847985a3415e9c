-- Scalars that are spelled in bytes, read as units: what a copy of text moves.
use Rattle.std.proofs.Common.{◌≡◌, ℕ, zero, suc, ◌+◌, ◌-◌, ◌*◌, ◌/◌, ◌%◌, ◌<◌, ◌≤◌, Bool, true, false, cond, List, [], ◌∷◌, ◌++◌, All, length, take, drop, map, get_or, Some, None, ⊎_elim, refl, ap, sym, subst, ◌∙◌, arith, append_assoc, length-append, length-take}
use Rattle.std.specs.Prelude.{Option, encode_utf8}
use Rattle.std.specs.Char.{IsScalar}
use Rattle.std.specs.Char.Escape.{encode_utf16}
use Rattle.std.specs.List.{flat_map}
use Rattle.std.proofs.lemmas.Bool.{and_parts}
use Rattle.std.proofs.lemmas.Grind.{flat_map-append}
use Rattle.std.proofs.lemmas.List.{append-nil, drop_at, take_at, take-take, take-append-drop}
use Rattle.std.proofs.lemmas.List.Elements.{All-nil, All-cons, All-append, All-drop, All-take, All-get_or}
use Rattle.enc_handles.proofs.CodeUnits.{twice_length-code_units}
use Rattle.enc_handles.specs.Copies.{CopiesUtf16, HasRoomBeforeEach}
use Rattle.enc_handles.specs.Reading.{Reading, left}
use Rattle.enc_handles.specs.Utf16.{is_lead, code_unit, code_units, encode_utf16_all, utf16_window, TakesWhatFits}
use Rattle.enc_handles.specs.Utf8.{AreScalars, text_of}
use Rattle.enc_handles.specs.Writing.{Writing, after_writing}
use Rattle.enc_drivers.specs.declared.unit.Item.{Item}
use Rattle.enc_drivers.specs.declared.unit.Item.TheVariants as item
use Rattle.enc_drivers.specs.declared.unit.Mode.{Mode}
use Rattle.enc_drivers.specs.Bulk.{ReadsAs}
use Rattle.enc_drivers.specs.Codes.Utf16.{utf16_unit, unit_bytes, scalar_bytes}
use Rattle.enc_drivers.specs.Codes.Utf8.{utf8_unit}
use Rattle.enc_drivers.specs.Resume.{text_in}
use Rattle.enc_drivers.specs.Turn.{Goes, CopiesScalars}
use Rattle.enc_drivers.specs.Units.{Code, IsCode, AreBytes, UnitAt, scalar_at, units}
use Rattle.enc_drivers.proofs.UnitLemmas.{units_some}
use Rattle.enc_drivers.proofs.Utf8RoundTrip.{utf8_round_trip}
use Rattle.enc_drivers.proofs.Utf16RoundTrip.{utf16_round_trip}

abbrev well : Item × ℕ → Type 0
well u = ¬ (u.0 ≡ item.Malformed)

-- what is written of a scalar is read as it, whatever follows
abbrev pub ReadsSpelled : Code → (ℕ → List ℕ) → Type 0
ReadsSpelled unit spell = (mode : Mode) (c : ℕ) (rest : List ℕ) → IsScalar c → unit mode (spell c ++ rest) ≡ scalar_at mode c (length (spell c))

-- the units of scalars
abbrev spelled_items : (ℕ → List ℕ) → List ℕ → List (Item × ℕ)
spelled_items spell cs = map (λ c. (item.One c, length (spell c))) cs

spelled_well : (spell : ℕ → List ℕ) (cs : List ℕ) → All well (spelled_items spell cs)
spelled_well spell [] = All-nil well
spelled_well spell (c ∷ cs) = All-cons well (item.One c, length (spell c)) (spelled_items spell cs) (λ e. cc) (spelled_well spell cs)

spelled_text : (form spell : ℕ → List ℕ) (cs : List ℕ) → text_in form (spelled_items spell cs) ≡ text_of form cs
spelled_text form spell [] = refl
spelled_text form spell (c ∷ cs) = ap (λ (l : List ℕ). form c ++ l) (spelled_text form spell cs)

are_front : (p q : List ℕ) → AreBytes (p ++ q) → AreBytes p
are_front p q are = subst (λ (l : List ℕ). AreBytes l) (take_at p q (length p) refl) (All-take (λ b. b < 256) (length p) (p ++ q) are)

are_rest : (p q : List ℕ) → AreBytes (p ++ q) → AreBytes q
are_rest p q are = subst (λ (l : List ℕ). AreBytes l) (drop_at p q (length p) refl) (All-drop (λ b. b < 256) (length p) (p ++ q) are)

-- one of them has bytes
some_spelled : (unit : Code) (spell : ℕ → List ℕ) (mode : Mode) (c : ℕ) → IsCode unit → ReadsSpelled unit spell → IsScalar c → AreBytes (spell c) → 1 ≤ length (spell c)
some_spelled unit spell mode c laws reads s are =
    let all : AreBytes (spell c ++ 0 ∷ []) = All-append (λ b. b < 256) (spell c) (0 ∷ []) are (All-cons (λ b. b < 256) 0 [] (omega arith) (All-nil (λ b. b < 256))) in
    let each = laws.each mode (spell c ++ 0 ∷ []) all (omega (arith, length-append (spell c) (0 ∷ []))) in
    (rw (reads mode c (0 ∷ []) s) at each).some

-- the units of bytes that spell scalars, and of what follows
spelled_units : (unit : Code) (spell : ℕ → List ℕ) (mode : Mode) → IsCode unit → ReadsSpelled unit spell → (cs rest : List ℕ) → AreScalars cs
    → AreBytes (flat_map spell cs ++ rest) → units unit mode (flat_map spell cs ++ rest) ≡ spelled_items spell cs ++ units unit mode rest
spelled_units unit spell mode laws reads [] rest each are = refl
spelled_units unit spell mode laws reads (c ∷ cs) rest each are =
    let parts = and_parts _ _ each in
    let y = flat_map spell cs ++ rest in
    let regroup : (spell c ++ flat_map spell cs) ++ rest ≡ spell c ++ y = append_assoc (spell c) (flat_map spell cs) rest in
    let all : AreBytes (spell c ++ y) = subst (λ (l : List ℕ). AreBytes l) regroup are in
    let some = some_spelled unit spell mode c laws reads parts.0 (are_front (spell c) y all) in
    ap (units unit mode) regroup
    ∙ (units_some unit laws mode (spell c ++ y) all (omega (arith, length-append (spell c) y))
    ∙ (ap (λ (v : UnitAt). (v.item, v.len) ∷ units unit v.next (drop v.len (spell c ++ y))) (reads mode c y parts.0)
    ∙ (ap (λ (l : List ℕ). (item.One c, length (spell c)) ∷ units unit mode l) (drop_at (spell c) y (length (spell c)) refl)
    ∙ ap (λ (l : List (Item × ℕ)). (item.One c, length (spell c)) ∷ l) (spelled_units unit spell mode laws reads cs rest parts.1 (are_rest (spell c) y all)))))

-- a copy of scalars
pub copied_scalars : (unit : Code) (spell form : ℕ → List ℕ) (last : Bool) (mode : Mode) (xs : List ℕ) (n : ℕ) (w w' : Writing) → IsCode unit → ReadsSpelled unit spell
    → AreBytes xs → CopiesScalars spell form xs n w w'
    → Goes unit form last (record { held = []; mode = mode }) (record { held = []; mode = mode }) xs n w w' []
copied_scalars unit spell form last mode xs n w w' laws reads are copies =
    let cs = copies.scalars in
    let whole : (more : List ℕ) → xs ++ more ≡ flat_map spell cs ++ (drop n xs ++ more) = λ more.
    ap (λ (l : List ℕ). l ++ more) (sym (take-append-drop n xs) ∙ ap (λ (l : List ℕ). l ++ drop n xs) copies.front)
    ∙ append_assoc (flat_map spell cs) (drop n xs) more in
    record {
      decoded = spelled_items spell cs;
      within = copies.within;
      resumes = record {
        well_formed = spelled_well spell cs;
        equation = λ more follows.
            let all = All-append (λ b. b < 256) xs more are follows.bytes in
            ap (units unit mode) (whole more)
            ∙ spelled_units unit spell mode laws reads cs (drop n xs ++ more) copies.each (subst (λ (l : List ℕ). AreBytes l) (whole more) all);
        gone = take n xs;
        held = sym (append-nil (take n xs));
      };
      text = copies.text ∙ ap (after_writing w) (sym (spelled_text form spell cs));
      fits = omega (arith, ap length (spelled_text form spell cs), copies.fits);
      fewer = omega arith;
      ahead = λ some held. absurd (omega arith);
    }

-- UTF-8 and UTF-16 are read as what is written in them
pub reads_utf_8 : (unit : Code) → ReadsAs utf8_unit unit → ReadsSpelled unit encode_utf8
reads_utf_8 unit same mode c rest s = same mode (encode_utf8 c ++ rest) ∙ utf8_round_trip mode c rest s

pub reads_utf_16 : (big : Bool) (unit : Code) → ReadsAs (utf16_unit big) unit → ReadsSpelled unit (scalar_bytes big)
reads_utf_16 big unit same mode c rest s = same mode (scalar_bytes big c ++ rest) ∙ utf16_round_trip big mode c rest s

-- the bytes of code units are the bytes that they were read from
unit_back : (big : Bool) (a b : ℕ) → a < 256 → b < 256 → unit_bytes big (code_unit big a b) ≡ a ∷ b ∷ []
unit_back true a b h k =
    let first : (a * 0x100 + b) / 0x100 ≡ a = omega arith in
    let second : (a * 0x100 + b) % 0x100 ≡ b = omega arith in
    rw (first, second) refl
unit_back false a b h k =
    let first : (b * 0x100 + a) % 0x100 ≡ a = omega arith in
    let second : (b * 0x100 + a) / 0x100 ≡ b = omega arith in
    rw (first, second) refl

units_back : (big : Bool) (xs : List ℕ) (n : ℕ) → AreBytes xs → n ≤ length (code_units big xs) → flat_map (unit_bytes big) (take n (code_units big xs)) ≡ take (2 * n) xs
units_back big xs zero are few = refl
units_back big [] (suc n) are few = absurd (omega arith)
units_back big (a ∷ []) (suc n) are few = absurd (omega arith)
units_back big (a ∷ b ∷ xs) (suc n) are few =
    let twice : 2 * suc n ≡ suc (suc (2 * n)) = omega arith in
    let low = All-get_or (λ c. c < 256) (a ∷ b ∷ xs) 0 0 (omega arith) are in
    let high = All-get_or (λ c. c < 256) (a ∷ b ∷ xs) 1 0 (omega arith) are in
    rw twice (ap (λ (l : List ℕ). l ++ flat_map (unit_bytes big) (take n (code_units big xs))) (unit_back big a b low high)
    ∙ ap (λ (l : List ℕ). a ∷ b ∷ l) (units_back big xs n (All-drop (λ c. c < 256) 2 (a ∷ b ∷ xs) are) (omega arith)))

scalars_back : (big : Bool) (cs : List ℕ) → flat_map (unit_bytes big) (encode_utf16_all cs) ≡ flat_map (scalar_bytes big) cs
unfolding scalar_bytes
scalars_back big [] = refl
scalars_back big (c ∷ cs) =
    flat_map-append (unit_bytes big) (encode_utf16 c) (encode_utf16_all cs)
    ∙ ap (λ (l : List ℕ). flat_map (unit_bytes big) (encode_utf16 c) ++ l) (scalars_back big cs)

-- a front of a window is a front of the units
front_of : (t : Bool) (i j k : ℕ) (xs us : List ℕ) → take k (cond t (take i (take j xs)) (take j xs)) ≡ us → length us ≡ k → (take k xs ≡ us) × (k ≤ j)
front_of true i j k xs us is len =
    let within : k ≤ i = omega (arith, ap length is, length-take k (take i (take j xs)), length-take i (take j xs), length-take j xs) in
    let below : k ≤ j = omega (arith, ap length is, length-take k (take i (take j xs)), length-take i (take j xs), length-take j xs) in
    (sym (take-take k j xs below) ∙ (sym (take-take k i (take j xs) within) ∙ is), below)
front_of false i j k xs us is len =
    let below : k ≤ j = omega (arith, ap length is, length-take k (take j xs), length-take j xs) in
    (sym (take-take k j xs below) ∙ is, below)

-- what found room before each has room as a whole
fits_each : (form : ℕ → List ℕ) (needed free : ℕ) (cs : List ℕ) → ((c : ℕ) → IsScalar c → length (form c) ≤ needed) → AreScalars cs → HasRoomBeforeEach form needed free cs
    → length (text_of form cs) ≤ free
fits_each form needed free [] any each room = omega arith
fits_each form needed free (c ∷ cs) any each room =
    let parts = and_parts _ _ each in
    let one = any c parts.0 in
    let first = room 0 (omega arith) in
    let rest = fits_each form needed (free - length (form c)) cs any parts.1
    (λ k below. omega (arith, room (suc k) (omega arith), length-append (form c) (text_of form (take k cs)))) in
    omega (arith, one, first, rest, length-append (form c) (text_of form cs))

same_length : (form : ℕ → List ℕ) → ((c : ℕ) → length (form c) ≡ length (encode_utf16 c)) → (cs : List ℕ) → length (text_of form cs) ≡ length (encode_utf16_all cs)
same_length form same [] = refl
same_length form same (c ∷ cs) =
    omega (arith, same_length form same cs, same c, length-append (form c) (text_of form cs), length-append (encode_utf16 c) (encode_utf16_all cs))

-- a copy of UTF-16
module _ (form : ℕ → List ℕ) (needed : ℕ) (taken : ℕ → ℕ → ℕ) (big : Bool) (xs : List ℕ) (r' : Reading) (w w' : Writing) (fit : TakesWhatFits form needed taken) (are : AreBytes xs) where
  copied : (result : Option (ℕ × ℕ)) (n : ℕ)
      → (copies : CopiesUtf16 form (utf16_window taken w.free (code_units big xs)) needed (record { items = xs; place = 0 }) r' w w' result)
      → n ≡ 2 * length (encode_utf16_all copies.scalars) → CopiesScalars (scalar_bytes big) form xs n w w'
  copied result n copies count =
      let cs = copies.scalars in
      let all = code_units big xs in
      let most = taken w.free (length all) in
      let v = take most all in
      let front = front_of (is_lead (get_or v (length v - 1) 0)) (length v - 1) most (length (encode_utf16_all cs)) all (encode_utf16_all cs) copies.front refl in
      let within : length (encode_utf16_all cs) ≤ length all = omega (arith, ap length front.0, length-take (length (encode_utf16_all cs)) all) in
      let read : take n xs ≡ flat_map (scalar_bytes big) cs =
      ap (λ k. take k xs) count ∙ (sym (units_back big xs (length (encode_utf16_all cs)) are within)
      ∙ (ap (λ (l : List ℕ). flat_map (unit_bytes big) l) front.0 ∙ scalars_back big cs)) in
      record {
        scalars = cs;
        each = copies.each;
        front = read;
        within = omega (arith, count, within, (twice_length-code_units big xs).0);
        text = copies.written;
        fits = ⊎_elim (λ any. fits_each form needed w.free cs any copies.each copies.room)
            (λ same. omega (arith, same_length form same.0 cs, front.1, same.1 w.free (length all))) fit;
      }

  from_start : (result : Option (ℕ × ℕ)) (r : Reading) → r ≡ record { items = xs; place = 0 } → CopiesUtf16 form (utf16_window taken w.free (code_units big (left r))) needed r r' w w' result
      → CopiesUtf16 form (utf16_window taken w.free (code_units big xs)) needed (record { items = xs; place = 0 }) r' w w' result
  from_start result r start copies =
      subst (λ (q : Reading). CopiesUtf16 form (utf16_window taken w.free (code_units big (left q))) needed q r' w w' result) start copies

  pub copies_utf_16 : (r : Reading) (n : ℕ) → r ≡ record { items = xs; place = 0 } → CopiesUtf16 form (utf16_window taken w.free (code_units big (left r))) needed r r' w w' None
      → n ≡ r'.place → CopiesScalars (scalar_bytes big) form xs n w w'
  copies_utf_16 r n start copies place =
      let moved = from_start None r start copies in
      let read = ap (λ (q : Reading). q.place) moved.stopped.read in
      copied None n moved (omega (arith, place, read))

  pub copies_utf_16_before : (r : Reading) (n : ℕ) (places : ℕ × ℕ) → r ≡ record { items = xs; place = 0 }
      → CopiesUtf16 form (utf16_window taken w.free (code_units big (left r))) needed r r' w w' (Some places)
      → n ≡ r'.place - 2 → CopiesScalars (scalar_bytes big) form xs n w w'
  copies_utf_16_before r n places start copies place =
      let moved = from_start (Some places) r start copies in
      let read = ap (λ (q : Reading). q.place) moved.stopped.read in
      copied (Some places) n moved (omega (arith, place, read))
