-- One turn of a decode call, and several in a row, over plain values.
use Rattle.std.proofs.Common.{◌≡◌, ℕ, zero, suc, ◌+◌, ◌-◌, ◌<◌, ◌≤◌, Bool, List, [], ◌∷◌, ◌++◌, length, take, drop, refl, ap, sym, subst, ◌∙◌, arith, append_assoc, length-append, length-drop}
use Rattle.std.proofs.Math.Seq.{take-add, take-append-add}
use Rattle.std.proofs.lemmas.Grind.{flat_map-append}
use Rattle.std.proofs.lemmas.List.{append-nil, drop-drop, drop-append-le, take-append-drop, take-take, length-take-le}
use Rattle.std.proofs.lemmas.List.Elements.{All-nil, All-cons, All-append, All-drop, All-take}
use Rattle.std.proofs.lemmas.List.Sums.{sum_by-cons}
use Rattle.enc_handles.specs.Writing.{Writing, after_writing}
use Rattle.enc_handles.proofs.LoopLemmas.{after_writing-append}
use Rattle.enc_handles.specs.declared.results.DecoderResult.{DecoderResult}
use Rattle.enc_handles.specs.declared.results.DecoderResult.TheVariants as result
use Rattle.enc_drivers.specs.declared.unit.Item.{Item}
use Rattle.enc_drivers.specs.declared.unit.Item.TheVariants as item
use Rattle.enc_drivers.specs.declared.unit.Mode.{Mode}
use Rattle.enc_drivers.specs.declared.code.Step.TheVariants as step
use Rattle.enc_drivers.specs.Turn.{Goes, Looks, ReadsOnto}
use Rattle.enc_drivers.specs.Resume.{Standing, Resumes, NeedsLast, IsOpen, item_in, text_in, malformed_of, unit_bytes}
use Rattle.enc_drivers.specs.Steps.{MayFollow}
use Rattle.enc_drivers.specs.Units.{Code, IsCode, IsUnitOf, AreBytes, UnitAt, units}
use Rattle.enc_drivers.proofs.FrontSteps.{reads_none, open_front}
use Rattle.enc_drivers.proofs.UnitLemmas.{units_some}

abbrev well : Item × ℕ → Type 0
well u = ¬ (u.0 ≡ item.Malformed)

-- bytes that are read onto a front stay in their order
regroup : (h xs more : List ℕ) (n : ℕ) → h ++ (xs ++ more) ≡ (h ++ take n xs) ++ (drop n xs ++ more)
regroup h xs more n =
    ap (λ (l : List ℕ). h ++ (l ++ more)) (sym (take-append-drop n xs))
    ∙ (ap (λ (l : List ℕ). h ++ l) (append_assoc (take n xs) (drop n xs) more)
    ∙ sym (append_assoc h (take n xs) (drop n xs ++ more)))

pub writing_none : (w : Writing) → w ≡ after_writing w []
writing_none w =
    let text : w.text ≡ w.text ++ [] = sym (append-nil w.text) in
    let free : w.free ≡ w.free - 0 = omega arith in
    ap (λ (t : List ℕ). record w { text = t }) text ∙ ap (λ (n : ℕ). record w { text = w.text ++ []; free = n }) free

-- bytes were read onto the front, and nothing was decoded
pub resumes_none : (unit : Code) (last : Bool) (mode : Mode) (h g xs : List ℕ) (n : ℕ) → g ≡ h ++ take n xs
    → Resumes unit last (record { held = h; mode = mode }) (record { held = g; mode = mode }) xs n [] []
resumes_none unit last mode h g xs n is = record {
  well_formed = All-nil well;
  equation = λ more follows. ap (units unit mode) (regroup h xs more n ∙ ap (λ (l : List ℕ). l ++ (drop n xs ++ more)) (sym is));
  gone = [];
  held = sym is;
}

-- two parts of a call in a row
pub resumes_more : (unit : Code) (last : Bool) (a b c : Standing) (xs : List ℕ) (n m : ℕ) (one two malformed : List (Item × ℕ))
    → Resumes unit last a b xs n one [] → Resumes unit last b c (drop n xs) m two malformed → Resumes unit last a c xs (n + m) (one ++ two) malformed
resumes_more unit last a b c xs n m one two malformed first second = record {
  well_formed = All-append well one two first.well_formed second.well_formed;
  equation = λ more follows.
      first.equation more follows
      ∙ (ap (λ (l : List (Item × ℕ)). one ++ l)
      (second.equation more follows
      ∙ ap (λ (l : List ℕ). two ++ (malformed ++ units unit c.mode (c.held ++ (l ++ more)))) (drop-drop m n xs))
      ∙ sym (append_assoc one two (malformed ++ units unit c.mode (c.held ++ (drop (n + m) xs ++ more)))));
  gone = first.gone ++ second.gone;
  held =
      let t = take m (drop n xs) in
      ap (λ (l : List ℕ). a.held ++ l) (take-add n m xs)
      ∙ (sym (append_assoc a.held (take n xs) t)
      ∙ (ap (λ (l : List ℕ). l ++ t) first.held
      ∙ (append_assoc first.gone b.held t
      ∙ (ap (λ (l : List ℕ). first.gone ++ l) second.held
      ∙ sym (append_assoc first.gone second.gone c.held)))));
}

length_read : (h f xs : List ℕ) (n : ℕ) → n ≤ length xs → f ≡ h ++ take n xs → length f ≡ length h + n
length_read h f xs n within is = ap length is ∙ length-append h (take n xs) ∙ ap (λ k. length h + k) (length-take-le n xs within)

-- the last byte that was read onto a front was needed
pub needs_front : (unit : Code) (last : Bool) (mode : Mode) (h f xs : List ℕ) (n count : ℕ) → ReadsOnto unit mode h f xs n → 0 < n → count ≤ length f
    → NeedsLast unit last (record { held = h; mode = mode }) xs n count
needs_front unit last mode h f xs n count reads some few =
    let all : length f ≡ length h + n = length_read h f xs n reads.within reads.front in
    let before : length (h ++ take (n - 1) xs) ≡ length h + (n - 1) = length_read h (h ++ take (n - 1) xs) xs (n - 1) (omega (arith, reads.within)) refl in
    record {
      front = record { held = h ++ take (n - 1) xs; mode = mode };
      decoded = [];
      resumes = resumes_none unit last mode h (h ++ take (n - 1) xs) xs (n - 1) refl;
      undecided = reads.needed some;
      covers = omega arith;
    }

-- bytes were read onto the front, and nothing was decoded
pub goes_none : (unit : Code) (form : ℕ → List ℕ) (last : Bool) (mode : Mode) (h g xs : List ℕ) (w w' : Writing) (n : ℕ)
    → ReadsOnto unit mode h g xs n → w' ≡ w → Goes unit form last (record { held = h; mode = mode }) (record { held = g; mode = mode }) xs n w w' []
goes_none unit form last mode h g xs w w' n reads same =
    let all : length g ≡ length h + n = length_read h g xs n reads.within reads.front in
    record {
      decoded = [];
      within = reads.within;
      resumes = resumes_none unit last mode h g xs n reads.front;
      text = same ∙ writing_none w;
      fits = omega arith;
      fewer = omega arith;
      ahead = λ some held. needs_front unit last mode h g xs n (0 + length g) reads some (omega arith);
    }

-- the last byte of a full front was put back
pub put_back : (unit : Code) (mode : Mode) (h f g xs : List ℕ) (n : ℕ) → ReadsOnto unit mode h f xs n → AreBytes xs → length h ≤ 3 → length f ≡ 4
    → length g + 1 ≡ length f → g ≡ take (length g) f → ReadsOnto unit mode h g xs (n - 1)
put_back unit mode h f g xs n reads are few full shorter front =
    let all : length f ≡ length h + n = length_read h f xs n reads.within reads.front in
    let some : 0 < n = omega arith in
    let parts : take (n - 1) xs ≡ take (n - 1 - 1) xs ++ take (n - 1 - (n - 1 - 1)) (drop (n - 1 - 1) xs) =
    ap (λ k. take k xs) (omega arith) ∙ take-add (n - 1 - 1) (n - 1 - (n - 1 - 1)) xs in
    record {
      within = omega (arith, reads.within);
      front = front ∙ (ap (λ k. take k f) (omega arith) ∙ (ap (λ (l : List ℕ). take (length h + (n - 1)) l) reads.front
          ∙ (take-append-add h (take n xs) (n - 1) ∙ ap (λ (l : List ℕ). h ++ l) (take-take (n - 1) n xs (omega arith)))));
      needed = λ more.
          open_front unit mode (h ++ take (n - 1 - 1) xs) (take (n - 1 - (n - 1 - 1)) (drop (n - 1 - 1) xs))
          (All-take (λ b. b < 256) (n - 1 - (n - 1 - 1)) (drop (n - 1 - 1) xs) (All-drop (λ b. b < 256) (n - 1 - 1) xs are))
          (subst (λ (l : List ℕ). IsOpen unit (record { held = l; mode = mode }))
          (ap (λ (l : List ℕ). h ++ l) parts ∙ sym (append_assoc h (take (n - 1 - 1) xs) (take (n - 1 - (n - 1 - 1)) (drop (n - 1 - 1) xs)))) (reads.needed some));
    }

-- a unit was found
module _ (unit : Code) (laws : IsCode unit) (form : ℕ → List ℕ) (last : Bool) (mode : Mode) (h f xs : List ℕ) (n : ℕ) (i : Item) (len : ℕ) (next : Mode)
    (are : AreBytes xs) (looks : Looks unit mode last h f xs n (step.Unit i len next)) where
  here : unit mode f ≡ record { item = i; len = len; next = next }
  here = ap (unit mode) (sym (append-nil f)) ∙ looks.finds.1.decided [] (record { bytes = All-nil (λ b. b < 256); none = λ e. refl })

  pub found : IsUnitOf f (record { item = i; len = len; next = next })
  found = rw here at (laws.each mode f looks.finds.1.bytes looks.finds.1.some)

  all_read : length f ≡ length h + n
  all_read = length_read h f xs n looks.reads.within looks.reads.front

  next_unit : (more : List ℕ) → MayFollow last more → units unit mode (h ++ (xs ++ more)) ≡ (i, len) ∷ units unit next (drop len f ++ (drop n xs ++ more))
  next_unit more follows =
      let y = drop n xs ++ more in
      let decides = looks.finds.1 in
      let are_rest : AreBytes y = All-append (λ b. b < 256) (drop n xs) more (All-drop (λ b. b < 256) n xs are) follows.bytes in
      let may : MayFollow looks.finds.0 y = record {
        bytes = are_rest;
        none = λ e. let ends = looks.finds.2 e in ap (λ (l : List ℕ). l ++ more) ends.1 ∙ follows.none ends.0;
      } in
      let unit_is : unit mode (f ++ y) ≡ record { item = i; len = len; next = next } = decides.decided y may in
      let some : 0 < length (f ++ y) = rw (length-append f y) (omega (arith, decides.some)) in
      ap (units unit mode) (regroup h xs more n ∙ ap (λ (l : List ℕ). l ++ y) (sym looks.reads.front))
      ∙ (units_some unit laws mode (f ++ y) (All-append (λ b. b < 256) f y decides.bytes are_rest) some
      ∙ (ap (λ (v : UnitAt). (v.item, v.len) ∷ units unit v.next (drop v.len (f ++ y))) unit_is
      ∙ ap (λ (l : List ℕ). (i, len) ∷ units unit next l) (drop-append-le len f y found.within)))

  pub held_rest : (rest : List ℕ) → rest ≡ drop len f → length rest ≤ 3
  held_rest rest is = omega (arith, ap length is, length-drop len f, found.some, looks.finds.1.four)

  pub shorter : (rest : List ℕ) → rest ≡ drop len f → length rest + length (drop n xs) < length h + length xs
  shorter rest is = omega (arith, ap length is, length-drop len f, found.some, found.within, all_read, length-drop n xs, looks.reads.within)

  gone_rest : (rest : List ℕ) → rest ≡ drop len f → h ++ take n xs ≡ take len f ++ rest
  gone_rest rest is = sym looks.reads.front ∙ (sym (take-append-drop len f) ∙ ap (λ (l : List ℕ). take len f ++ l) (sym is))

  pub goes_malformed : (rest : List ℕ) (w : Writing) → i ≡ item.Malformed → rest ≡ drop len f
      → Goes unit form last (record { held = h; mode = mode }) (record { held = rest; mode = next }) xs n w w ((item.Malformed, len) ∷ [])
  goes_malformed rest w wrong is =
      let count : unit_bytes ((item.Malformed, len) ∷ []) ≡ len + 0 = sum_by-cons (λ (u : Item × ℕ). u.1) (item.Malformed, len) [] in
      let whole : unit_bytes ((item.Malformed, len) ∷ []) + length rest ≡ length f = omega (arith, ap length is, length-drop len f, found.within) in
      record {
        decoded = [];
        within = looks.reads.within;
        resumes = record {
          well_formed = All-nil well;
          equation = λ more follows. next_unit more follows
              ∙ (ap (λ (j : Item). (j, len) ∷ units unit next (drop len f ++ (drop n xs ++ more))) wrong
              ∙ ap (λ (l : List ℕ). (item.Malformed, len) ∷ units unit next (l ++ (drop n xs ++ more))) (sym is));
          gone = take len f;
          held = gone_rest rest is;
        };
        text = writing_none w;
        fits = omega arith;
        fewer = omega (arith, whole, all_read);
        ahead = λ some held. needs_front unit last mode h f xs n (unit_bytes ((item.Malformed, len) ∷ []) + length rest) looks.reads some (omega (arith, whole));
      }

  pub goes_written : (rest : List ℕ) (w w' : Writing) → ¬ (i ≡ item.Malformed) → rest ≡ drop len f → w' ≡ after_writing w (item_in form i) → length (item_in form i) ≤ w.free
      → Goes unit form last (record { held = h; mode = mode }) (record { held = rest; mode = next }) xs n w w' []
  goes_written rest w w' right is written fits =
      let few : length rest ≤ length f = omega (arith, ap length is, length-drop len f) in
      record {
        decoded = (i, len) ∷ [];
        within = looks.reads.within;
        resumes = record {
          well_formed = All-cons well (i, len) [] right (All-nil well);
          equation = λ more follows. next_unit more follows
              ∙ ap (λ (l : List ℕ). (i, len) ∷ units unit next (l ++ (drop n xs ++ more))) (sym is);
          gone = take len f;
          held = gone_rest rest is;
        };
        text = written ∙ ap (after_writing w) (sym (append-nil (item_in form i)));
        fits = rw (append-nil (item_in form i)) fits;
        fewer = omega (arith, few, all_read);
        ahead = λ some held. needs_front unit last mode h f xs n (0 + length rest) looks.reads some (omega (arith, few));
      }

-- the last byte of two parts of a call: that of the second, or that of the first where the second read none
needs_more : (unit : Code) (last : Bool) (a b c : Standing) (xs : List ℕ) (n m count : ℕ) (one : List (Item × ℕ))
    → Resumes unit last a b xs n one [] → count ≤ length b.held + m
    → (0 < n → 0 < length b.held → NeedsLast unit last a xs n (unit_bytes [] + length b.held)) → (0 < m → 0 < length c.held → NeedsLast unit last b (drop n xs) m count)
    → 0 < n + m → 0 < count → 0 < length c.held → NeedsLast unit last a xs (n + m) count
needs_more unit last a b c xs n zero count one first few before behind some counts held =
    let needs = before (omega arith) (omega arith) in
    let same : n + 0 ≡ n = omega arith in
    rw same (record {
      front = needs.front;
      decoded = needs.decoded;
      resumes = needs.resumes;
      undecided = needs.undecided;
      covers = omega (arith, needs.covers);
    })
needs_more unit last a b c xs n (suc m) count one first few before behind some counts held =
    let needs = behind (omega arith) held in
    let place : n + suc m - 1 ≡ n + (suc m - 1) = omega arith in
    record {
      front = needs.front;
      decoded = one ++ needs.decoded;
      resumes = subst (λ k. Resumes unit last a needs.front xs k (one ++ needs.decoded) []) (sym place)
          (resumes_more unit last a b needs.front xs n (suc m - 1) one needs.decoded [] first needs.resumes);
      undecided = needs.undecided;
      covers = needs.covers;
    }

-- two parts of a call in a row
pub goes_more : (unit : Code) (form : ℕ → List ℕ) (last : Bool) (a b c : Standing) (xs : List ℕ) (n m : ℕ) (w w' w'' : Writing) (malformed : List (Item × ℕ))
    → Goes unit form last a b xs n w w' [] → Goes unit form last b c (drop n xs) m w' w'' malformed → Goes unit form last a c xs (n + m) w w'' malformed
goes_more unit form last a b c xs n m w w' w'' malformed one two =
    record {
      decoded = one.decoded ++ two.decoded;
      within = omega (arith, one.within, two.within, length-drop n xs);
      resumes = resumes_more unit last a b c xs n m one.decoded two.decoded malformed one.resumes two.resumes;
      text = two.text ∙ (ap (λ v. after_writing v (text_in form two.decoded)) one.text
          ∙ (after_writing-append w (text_in form one.decoded) (text_in form two.decoded)
          ∙ ap (after_writing w) (sym (flat_map-append (λ (u : Item × ℕ). item_in form u.0) one.decoded two.decoded))));
      fits =
          let free : w'.free ≡ w.free - length (text_in form one.decoded) = ap (λ (v : Writing). v.free) one.text in
          rw (flat_map-append (λ (u : Item × ℕ). item_in form u.0) one.decoded two.decoded, length-append (text_in form one.decoded) (text_in form two.decoded))
          (omega (arith, one.fits, two.fits, free));
      fewer = omega (arith, one.fewer, two.fewer);
      ahead = λ some held.
          needs_more unit last a b c xs n m (unit_bytes malformed + length c.held) one.decoded one.resumes two.fewer one.ahead two.ahead some (omega arith) held;
    }

-- nothing was done yet
pub goes_nothing : (unit : Code) (form : ℕ → List ℕ) (last : Bool) (a : Standing) (xs : List ℕ) (w : Writing) → Goes unit form last a a xs 0 w w []
goes_nothing unit form last a xs w = goes_none unit form last a.mode a.held a.held xs w w 0 (reads_none unit a.mode a.held xs) refl

-- a part of a call that had too little room met no malformed unit
pub goes_full : (unit : Code) (form : ℕ → List ℕ) (last : Bool) (before after : Standing) (src : List ℕ) (count : ℕ) (from to : Writing) (tells : DecoderResult) → tells ≡ result.OutputFull
    → Goes unit form last before after src count from to (malformed_of tells) → Goes unit form last before after src count from to []
goes_full unit form last before after src count from to tells full moved =
    subst (λ (r : DecoderResult). Goes unit form last before after src count from to (malformed_of r)) full moved
