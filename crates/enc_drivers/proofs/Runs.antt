-- Decoding where nothing is held: a copy of ASCII, and the unit at the front of what is left.
use Rattle.std.proofs.Common.{◌≡◌, ℕ, zero, suc, ◌+◌, ◌-◌, ◌<◌, ◌≤◌, Bool, true, false, ltb, cond, List, [], ◌∷◌, ◌++◌, All, length, take, drop, map, refl, ap, sym, subst, ◌∙◌, inr, arith, append_assoc, length-append, length-drop, length-take}
use Rattle.std.proofs.Math.Dec.{leb}
use Rattle.std.proofs.lemmas.Bool.{leb-false, leb-true, ltb-true}
use Rattle.std.proofs.lemmas.List.{append-nil, drop-append-le, take-append-drop, take-append-le, take-take, take_all, drop_all}
use Rattle.std.proofs.lemmas.List.Elements.{All-nil, All-cons, All-append, All-drop, All-take, All-tail}
use Rattle.std.proofs.lemmas.List.Sums.{sum_by-cons}
use Rattle.enc_handles.specs.Ascii.{ascii_len, moved_len, moved_text}
use Rattle.enc_handles.specs.Utf8.{text_of}
use Rattle.enc_handles.specs.Writing.{Writing, after_writing}
use Rattle.enc_handles.proofs.AsciiLemmas.{moved_text-ascii, length-take-moved_len, moved_len_le}
use Rattle.enc_drivers.specs.declared.unit.Item.{Item}
use Rattle.enc_drivers.specs.declared.unit.Item.TheVariants as item
use Rattle.enc_drivers.specs.declared.unit.Mode.{Mode}
use Rattle.enc_drivers.specs.Bulk.{KeepsAscii, BeginsWithScalar, ReadsBytes}
use Rattle.enc_drivers.specs.Turn.{Goes, ReadsOnto}
use Rattle.enc_drivers.specs.Resume.{MayHold, item_in, text_in, unit_bytes}
use Rattle.enc_drivers.specs.Steps.{MayFollow, IsDecided, IsUndecided}
use Rattle.enc_drivers.specs.Units.{Code, IsCode, IsUnitOf, AreBytes, UnitAt, scalar_at, units}
use Rattle.enc_drivers.proofs.FrontSteps.{undecided_few, open_front}
use Rattle.enc_drivers.proofs.Turns.{writing_none}
use Rattle.enc_drivers.proofs.UnitLemmas.{units_some}

abbrev well : Item × ℕ → Type 0
well u = ¬ (u.0 ≡ item.Malformed)

-- a unit that one step found at the front of what is left, where nothing is held
module _ (unit : Code) (laws : IsCode unit) (form : ℕ → List ℕ) (last : Bool) (mode : Mode) (h xs : List ℕ) (i : Item) (len : ℕ) (next : Mode)
    (are : AreBytes xs) (some : 0 < length xs) (nothing : h ≡ []) (decided : IsDecided unit mode (take 4 xs) last (record { item = i; len = len; next = next })) where
  front_unit : unit mode (take 4 xs) ≡ record { item = i; len = len; next = next }
  front_unit = ap (unit mode) (sym (append-nil (take 4 xs))) ∙ decided [] (record { bytes = All-nil (λ b. b < 256); none = λ e. refl })

  pub found_here : IsUnitOf (take 4 xs) (record { item = i; len = len; next = next })
  found_here = rw front_unit at (laws.each mode (take 4 xs) (All-take (λ b. b < 256) 4 xs are) (omega (arith, length-take 4 xs)))

  within : len ≤ length xs
  within = omega (arith, found_here.within, length-take 4 xs)

  unit_at : (more : List ℕ) → MayFollow last more → (t : Bool) → leb 4 (length xs) ≡ t → unit mode (xs ++ more) ≡ record { item = i; len = len; next = next }
  unit_at more follows false e =
      let short = leb-false 4 (length xs) e in
      let all : take 4 xs ≡ xs = take_all 4 xs (omega arith) in
      ap (λ (l : List ℕ). unit mode (l ++ more)) (sym all) ∙ decided more follows
  unit_at more follows true e =
      let long : 4 ≤ length xs = leb-true 4 (length xs) e in
      laws.first_four mode (xs ++ more) (take 4 xs)
      (All-append (λ b. b < 256) xs more are follows.bytes) (All-take (λ b. b < 256) 4 xs are)
      (rw (length-append xs more) (omega arith)) (omega (arith, length-take 4 xs))
      (take-append-le 4 xs more long ∙ sym (take-take 4 4 xs (omega arith)))
      ∙ front_unit

  next_here : (more : List ℕ) → MayFollow last more → units unit mode (xs ++ more) ≡ (i, len) ∷ units unit next (drop len xs ++ more)
  next_here more follows =
      let long : 0 < length (xs ++ more) = rw (length-append xs more) (omega arith) in
      units_some unit laws mode (xs ++ more) (All-append (λ b. b < 256) xs more are follows.bytes) long
      ∙ (ap (λ (v : UnitAt). (v.item, v.len) ∷ units unit v.next (drop v.len (xs ++ more))) (unit_at more follows (leb 4 (length xs)) refl)
      ∙ ap (λ (l : List ℕ). (i, len) ∷ units unit next l) (drop-append-le len xs more within))

  malformed_from : (w : Writing) → i ≡ item.Malformed
      → Goes unit form last (record { held = []; mode = mode }) (record { held = []; mode = next }) xs len w w ((item.Malformed, len) ∷ [])
  malformed_from w wrong =
      let count : unit_bytes ((item.Malformed, len) ∷ []) ≡ len + 0 = sum_by-cons (λ (u : Item × ℕ). u.1) (item.Malformed, len) [] in
      record {
        decoded = [];
        within = within;
        resumes = record {
          well_formed = All-nil well;
          equation = λ more follows. next_here more follows ∙ ap (λ (j : Item). (j, len) ∷ units unit next (drop len xs ++ more)) wrong;
          gone = take len xs;
          held = sym (append-nil (take len xs));
        };
        text = writing_none w;
        fits = omega arith;
        fewer = omega (arith, count);
        ahead = λ some held. absurd (omega arith);
      }

  written_from : (w w' : Writing) → ¬ (i ≡ item.Malformed) → w' ≡ after_writing w (item_in form i) → length (item_in form i) ≤ w.free
      → Goes unit form last (record { held = []; mode = mode }) (record { held = []; mode = next }) xs len w w' []
  written_from w w' right written fits = record {
    decoded = (i, len) ∷ [];
    within = within;
    resumes = record {
      well_formed = All-cons well (i, len) [] right (All-nil well);
      equation = next_here;
      gone = take len xs;
      held = sym (append-nil (take len xs));
    };
    text = written ∙ ap (after_writing w) (sym (append-nil (item_in form i)));
    fits = rw (append-nil (item_in form i)) fits;
    fewer = omega arith;
    ahead = λ some held. absurd (omega arith);
  }

  -- the same of what is held and of a count that equal these
  pub malformed_here : (n : ℕ) (w : Writing) → n ≡ len → i ≡ item.Malformed
      → Goes unit form last (record { held = h; mode = mode }) (record { held = h; mode = next }) xs n w w ((item.Malformed, len) ∷ [])
  malformed_here n w count wrong = rw (nothing, count) (malformed_from w wrong)

  pub written_here : (n : ℕ) (w w' : Writing) → n ≡ len → ¬ (i ≡ item.Malformed) → w' ≡ after_writing w (item_in form i) → length (item_in form i) ≤ w.free
      → Goes unit form last (record { held = h; mode = mode }) (record { held = h; mode = next }) xs n w w' []
  written_here n w w' count right written fits = rw (nothing, count) (written_from w w' right written fits)

  pub shorter_here : (n : ℕ) → n ≡ len → length h + length (drop n xs) < length h + length xs
  shorter_here n count = omega (arith, length-drop n xs, found_here.some, within)

-- all that is left is held, since its unit depends on what follows
module _ (unit : Code) (laws : IsCode unit) (last : Bool) (mode : Mode) (h g xs : List ℕ) (n : ℕ)
    (are : AreBytes xs) (nothing : h ≡ []) (held : g ≡ take 4 xs) (count : n ≡ length (take 4 xs)) (undecided : IsUndecided unit mode (take 4 xs)) where
  few : length (take 4 xs) < 4
  few = undecided_few unit mode (take 4 xs) laws (All-take (λ b. b < 256) 4 xs are) undecided

  all : take 4 xs ≡ xs
  all = take_all 4 xs (omega (arith, few, length-take 4 xs))

  all_read : n ≡ length xs
  all_read = count ∙ ap length all

  pub few_here : length g ≤ 3
  few_here = omega (arith, few, ap length held)

  pub reads_here : ReadsOnto unit mode h g xs n
  reads_here = record {
    within = omega (arith, all_read);
    front = held ∙ (all ∙ sym (ap (λ (l : List ℕ). l ++ take n xs) nothing ∙ take_all n xs (omega (arith, all_read))));
    needed = λ some.
        let parts : take 4 xs ≡ (h ++ take (n - 1) xs) ++ drop (n - 1) xs =
        all ∙ (sym (take-append-drop (n - 1) xs) ∙ ap (λ (l : List ℕ). (l ++ take (n - 1) xs) ++ drop (n - 1) xs) (sym nothing)) in
        open_front unit mode (h ++ take (n - 1) xs) (drop (n - 1) xs) (All-drop (λ b. b < 256) (n - 1) xs are)
        (inr (subst (λ (l : List ℕ). IsUndecided unit mode l) parts undecided));
  }

  pub ends_here : last ≡ false → (drop n xs ≡ []) × MayHold unit last (record { held = g; mode = mode })
  ends_here goes_on = (
    drop_all n xs (omega (arith, all_read)),
    record {
      few = few_here;
      end = λ e. cc;
      undecided = inr (subst (λ (l : List ℕ). IsUndecided unit mode l) (sym held) undecided);
    },
  )

-- the units of ASCII
abbrev ascii_items : List ℕ → List (Item × ℕ)
ascii_items xs = map (λ b. (item.One b, 1)) xs

ascii_well : (xs : List ℕ) → All well (ascii_items xs)
ascii_well [] = All-nil well
ascii_well (x ∷ xs) = All-cons well (item.One x, 1) (ascii_items xs) (λ e. cc) (ascii_well xs)

ascii_text : (form : ℕ → List ℕ) (xs : List ℕ) → text_in form (ascii_items xs) ≡ text_of form xs
ascii_text form [] = refl
ascii_text form (x ∷ xs) = ap (λ (l : List ℕ). form x ++ l) (ascii_text form xs)

-- the first of them, and the rest
ascii_more : (unit : Code) → IsCode unit → KeepsAscii unit → (mode : Mode) (x : ℕ) (xs more : List ℕ) (n : ℕ) → AreBytes (x ∷ (xs ++ more))
    → (n ≤ ascii_len xs → units unit mode (xs ++ more) ≡ ascii_items (take n xs) ++ units unit mode (drop n xs ++ more))
    → (t : Bool) → ltb x 0x80 ≡ t → suc n ≤ cond t (ascii_len xs + 1) 0
    → units unit mode (x ∷ (xs ++ more)) ≡ (item.One x, 1) ∷ (ascii_items (take n xs) ++ units unit mode (drop n xs ++ more))
ascii_more unit laws ascii mode x xs more n are rest false e few = absurd (omega arith)
ascii_more unit laws ascii mode x xs more n are rest true e few =
    units_some unit laws mode (x ∷ (xs ++ more)) are (omega arith)
    ∙ (ap (λ (v : UnitAt). (v.item, v.len) ∷ units unit v.next (drop v.len (x ∷ (xs ++ more)))) (ascii mode x (xs ++ more) (ltb-true x 0x80 e))
    ∙ ap (λ (l : List (Item × ℕ)). (item.One x, 1) ∷ l) (rest (omega arith)))

ascii_units : (unit : Code) → IsCode unit → KeepsAscii unit → (mode : Mode) (n : ℕ) (xs more : List ℕ) → AreBytes (xs ++ more) → n ≤ ascii_len xs
    → units unit mode (xs ++ more) ≡ ascii_items (take n xs) ++ units unit mode (drop n xs ++ more)
ascii_units unit laws ascii mode zero xs more are few = refl
ascii_units unit laws ascii mode (suc n) [] more are few = absurd (omega arith)
ascii_units unit laws ascii mode (suc n) (x ∷ xs) more are few =
    ascii_more unit laws ascii mode x xs more n are
    (ascii_units unit laws ascii mode n xs more (All-tail (λ b. b < 256) x (xs ++ more) are)) (ltb x 0x80) refl few

-- a copy of ASCII
pub copied_ascii : (unit : Code) (form : ℕ → List ℕ) (last : Bool) (mode : Mode) (xs : List ℕ) (n : ℕ) (w w' : Writing) → IsCode unit → KeepsAscii unit
    → ((c : ℕ) → c < 0x80 → form c ≡ c ∷ []) → AreBytes xs → n ≡ moved_len xs w.free → w' ≡ after_writing w (moved_text form xs w.free)
    → Goes unit form last (record { held = []; mode = mode }) (record { held = []; mode = mode }) xs n w w' []
copied_ascii unit form last mode xs n w w' laws ascii one are count written =
    let some : n ≤ ascii_len xs = omega arith in
    let moved : text_in form (ascii_items (take n xs)) ≡ moved_text form xs w.free = ascii_text form (take n xs) ∙ ap (λ k. text_of form (take k xs)) count in
    let len : length (moved_text form xs w.free) ≡ moved_len xs w.free = ap length (moved_text-ascii form one xs w.free) ∙ length-take-moved_len xs w.free in
    record {
      decoded = ascii_items (take n xs);
      within = omega (arith, moved_len_le xs w.free);
      resumes = record {
        well_formed = ascii_well (take n xs);
        equation = λ more follows. ascii_units unit laws ascii mode n xs more (All-append (λ b. b < 256) xs more are follows.bytes) some;
        gone = take n xs;
        held = sym (append-nil (take n xs));
      };
      text = written ∙ ap (after_writing w) (sym moved);
      fits = omega (arith, ap length moved, len);
      fewer = omega arith;
      ahead = λ some held. absurd (omega arith);
    }

-- a scalar at the front
module _ (unit : Code) (laws : IsCode unit) (xs : List ℕ) (c n : ℕ) (are : AreBytes xs) (some : 0 < length xs) (begins : BeginsWithScalar unit xs c n) where
  pub scalar_found : (mode : Mode) → IsUnitOf xs (scalar_at mode c n)
  scalar_found mode =
      let front : unit mode xs ≡ scalar_at mode c n = ap (unit mode) (sym (append-nil xs)) ∙ begins mode [] (All-nil (λ b. b < 256)) in
      rw front at (laws.each mode xs are some)

  pub scalar_moved : (form : ℕ → List ℕ) (last : Bool) (mode : Mode) (w w' : Writing) → w' ≡ after_writing w (form c) → length (form c) ≤ w.free
      → Goes unit form last (record { held = []; mode = mode }) (record { held = []; mode = mode }) xs n w w' []
  scalar_moved form last mode w w' written fits =
      let within = (scalar_found mode).within in
      record {
        decoded = (item.One c, n) ∷ [];
        within = within;
        resumes = record {
          well_formed = All-cons well (item.One c, n) [] (λ e. cc) (All-nil well);
          equation = λ more follows.
              let long : 0 < length (xs ++ more) = rw (length-append xs more) (omega arith) in
              units_some unit laws mode (xs ++ more) (All-append (λ b. b < 256) xs more are follows.bytes) long
              ∙ (ap (λ (v : UnitAt). (v.item, v.len) ∷ units unit v.next (drop v.len (xs ++ more))) (begins mode more follows.bytes)
              ∙ ap (λ (l : List ℕ). (item.One c, n) ∷ units unit mode l) (drop-append-le n xs more within));
          gone = take n xs;
          held = sym (append-nil (take n xs));
        };
        text = written ∙ ap (after_writing w) (sym (append-nil (form c)));
        fits = rw (append-nil (form c)) fits;
        fewer = omega arith;
        ahead = λ some held. absurd (omega arith);
      }

-- bytes that are units of one byte
bytes_units : (unit : Code) → IsCode unit → (mode : Mode) (bs cs rest : List ℕ) → AreBytes (bs ++ rest) → ReadsBytes unit bs cs
    → units unit mode (bs ++ rest) ≡ ascii_items cs ++ units unit mode rest
bytes_units unit laws mode [] [] rest are reads = refl
bytes_units unit laws mode [] (c ∷ cs) rest are reads = absurd reads
bytes_units unit laws mode (b ∷ bs) [] rest are reads = absurd reads
bytes_units unit laws mode (b ∷ bs) (c ∷ cs) rest are reads =
    units_some unit laws mode (b ∷ (bs ++ rest)) are (omega arith)
    ∙ (ap (λ (v : UnitAt). (v.item, v.len) ∷ units unit v.next (drop v.len (b ∷ (bs ++ rest)))) (reads.0 mode (bs ++ rest))
    ∙ ap (λ (l : List (Item × ℕ)). (item.One c, 1) ∷ l) (bytes_units unit laws mode bs cs rest (All-tail (λ x. x < 256) b (bs ++ rest) are) reads.1))

-- eight of them
pub block_moved : (unit : Code) (form : ℕ → List ℕ) (last : Bool) (mode : Mode) (xs block : List ℕ) (w w' : Writing) → IsCode unit → AreBytes xs → 8 ≤ length xs
    → ReadsBytes unit (take 8 xs) block → w' ≡ after_writing w (text_of form block) → length (text_of form block) ≤ w.free
    → Goes unit form last (record { held = []; mode = mode }) (record { held = []; mode = mode }) xs 8 w w' []
block_moved unit form last mode xs block w w' laws are long reads written fits =
    let whole : (more : List ℕ) → xs ++ more ≡ take 8 xs ++ (drop 8 xs ++ more) = λ more.
    ap (λ (l : List ℕ). l ++ more) (sym (take-append-drop 8 xs)) ∙ append_assoc (take 8 xs) (drop 8 xs) more in
    record {
      decoded = ascii_items block;
      within = long;
      resumes = record {
        well_formed = ascii_well block;
        equation = λ more follows.
            let all = All-append (λ b. b < 256) xs more are follows.bytes in
            ap (units unit mode) (whole more)
            ∙ bytes_units unit laws mode (take 8 xs) block (drop 8 xs ++ more) (subst (λ (l : List ℕ). AreBytes l) (whole more) all) reads;
        gone = take 8 xs;
        held = sym (append-nil (take 8 xs));
      };
      text = written ∙ ap (after_writing w) (sym (ascii_text form block));
      fits = omega (arith, ap length (ascii_text form block), fits);
      fewer = omega arith;
      ahead = λ some held. absurd (omega arith);
    }
