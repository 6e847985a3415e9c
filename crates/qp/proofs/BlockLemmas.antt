-- Many octets at once: their items, and these laid out.
use Rattle.std.proofs.Common.{◌≡◌, ℕ, zero, suc, ◌+◌, ◌-◌, ◌*◌, ◌<◌, ◌≤◌, Bool, true, false, cond, not, ◌&&◌, ◌||◌, eqb, nat_lt, nat_le, List, [], ◌∷◌, ◌++◌, map, length, take, drop, get_or, refl, ap, ap₂, sym, ◌∙◌, subst, arith}
use Rattle.std.specs.List.{list_all}
use Rattle.std.proofs.Math.Seq.{take-add, take-append-add}
use Rattle.std.proofs.lemmas.Bool.{false≢true, and_parts, le-ltb, ltb-false, eqb-true, eq-eqb, ne_eqb, or_from, and_left, and_right, not-true, leb-true}
use Rattle.std.proofs.lemmas.Bool.Decides.{nat_tests}
use Rattle.std.proofs.lemmas.List.{append_assoc, append-nil, take-append-drop, length-take-le, length-append, take-take, take_at}
use Rattle.qp.specs.declared.InputMode.{InputMode}
use Rattle.qp.specs.Items.{Item, plain, escaped, item_text, is_blank, ends_blank, may_stand_within, begins_break, ends_line, octet_item, keeps_breaks, items}
use Rattle.qp.specs.Layout.{is_hard_break, goes_on, width, breaks_before, laid_out_from}
use Rattle.qp.specs.Blocks.{within_item, spread, goes_within}
use Rattle.qp.proofs.ItemLemmas.{items-octet, goes_on-some, lay-broken, lay-fits, turn-break}

-- What is written for octets.
item_some : (b : ℕ) → 0 < length (item_text (within_item b))
item_some b = by_stands (may_stand_within b)
  where
    by_stands : (t : Bool) → 0 < length (item_text (cond t (plain b) (escaped b)))
    by_stands true = omega arith
    by_stands false = omega arith

item_short : (b : ℕ) → length (item_text (within_item b)) ≤ 3
item_short b = by_stands (may_stand_within b)
  where
    by_stands : (t : Bool) → length (item_text (cond t (plain b) (escaped b))) ≤ 3
    by_stands true = omega arith
    by_stands false = omega arith

item_soft : (b : ℕ) → is_hard_break (within_item b) ≡ false
item_soft b = by_stands (may_stand_within b)
  where
    by_stands : (t : Bool) → is_hard_break (cond t (plain b) (escaped b)) ≡ false
    by_stands true = refl
    by_stands false = refl

pub spread-more : (b : ℕ) (rest : List ℕ) → length (spread (b ∷ rest)) ≡ length (item_text (within_item b)) + length (spread rest)
unfolding spread
spread-more b rest = length-append (item_text (within_item b)) (spread rest)

pub spread-none : spread [] ≡ []
unfolding spread
spread-none = refl

pub spread-append : (front rest : List ℕ) → spread (front ++ rest) ≡ spread front ++ spread rest
unfolding spread
spread-append [] rest = refl
spread-append (b ∷ front) rest =
    ap (λ t. item_text (within_item b) ++ t) (spread-append front rest) ∙ sym (append_assoc (item_text (within_item b)) (spread front) (spread rest))

pub spread-long : (front : List ℕ) → length front ≤ length (spread front)
spread-long [] = omega arith
spread-long (b ∷ front) = omega (arith, spread-more b front, item_some b, spread-long front)

first_octet : (text : List ℕ) → 0 < length text → text ≡ get_or text 0 0 ∷ drop 1 text
first_octet [] h = absurd (omega (arith, h))
first_octet (b ∷ text) h = refl

first_taken : (text : List ℕ) → 0 < length text → take 1 text ≡ get_or text 0 0 ∷ []
first_taken [] h = absurd (omega (arith, h))
first_taken (b ∷ text) h = refl

drop_next : (k : ℕ) (text : List ℕ) → drop (suc k) text ≡ drop 1 (drop k text)
drop_next zero text = refl
drop_next (suc k) [] = refl
drop_next (suc k) (b ∷ text) = drop_next k text

pub length_drop : (k : ℕ) (text : List ℕ) → k ≤ length text → length (drop k text) + k ≡ length text
length_drop zero text h = omega arith
length_drop (suc k) [] h = absurd (omega (arith, h))
length_drop (suc k) (b ∷ text) h = omega (arith, length_drop k text (omega (arith, h)))

pub spread-next : (k : ℕ) (text : List ℕ) → k < length text → length (spread (take (k + 1) text)) ≡ length (spread (take k text)) + width (within_item (get_or (drop k text) 0 0))
spread-next k text h =
    let some : 0 < length (drop k text) = omega (arith, h, length_drop k text (omega (arith, h))) in
    let one : length (spread (get_or (drop k text) 0 0 ∷ [])) ≡ width (within_item (get_or (drop k text) 0 0)) + 0 = spread-more (get_or (drop k text) 0 0) [] ∙ ap (λ t. width (within_item (get_or (drop k text) 0 0)) + length t) spread-none in
    ap (λ t. length (spread t)) (take-add k 1 text ∙ ap (λ t. take k text ++ t) (first_taken (drop k text) some))
    ∙ ap length (spread-append (take k text) (get_or (drop k text) 0 0 ∷ []))
    ∙ length-append (spread (take k text)) (spread (get_or (drop k text) 0 0 ∷ []))
    ∙ (omega (arith, one))

-- Where no octet is CR or a blank at the end of a line.
no_return : ℕ → Bool
no_return b = not (eqb b 13)

no_end : (c : ℕ) (rest : List ℕ) → not (eqb c 13) ≡ true → begins_break (c ∷ rest) ≡ false
no_end c [] h = refl
no_end c (d ∷ rest) h = and_left (eqb c 13) (eqb d 10) (not-true (eqb c 13) h)

both : (a b : Bool) → a ≡ true → b ≡ true → (a && b) ≡ true
both a b p q = rw (p, q) refl

pub within-whole : (run : ℕ) (text : List ℕ) → run ≤ length text → list_all (λ b. not (eqb b 13)) (take run text) ≡ true → ends_blank (take run text) ≡ false → goes_within run text ≡ true
unfolding goes_within
within-whole zero text l h e = refl
within-whole (suc n) [] l h e = absurd (omega (arith, l))
within-whole (suc zero) (b ∷ rest) l h e =
    both (not (eqb b 13)) _ (and_parts (not (eqb b 13)) true h).0 (both (not (is_blank b && ends_line rest)) true (ap not (and_left (is_blank b) (ends_line rest) e)) refl)
within-whole (suc (suc n)) (b ∷ []) l h e = absurd (omega (arith, l))
within-whole (suc (suc n)) (b ∷ c ∷ rest) l h e =
    let here = and_parts (not (eqb b 13)) (list_all (λ b. not (eqb b 13)) (take (suc n) (c ∷ rest))) h in
    let next = and_parts (not (eqb c 13)) (list_all (λ b. not (eqb b 13)) (take n rest)) here.1 in
    both (not (eqb b 13)) _ here.0 (both (not (is_blank b && ends_line (c ∷ rest))) _ (ap not (and_right (is_blank b) (ends_line (c ∷ rest)) (no_end c rest next.0))) (within-whole (suc n) (c ∷ rest) (omega (arith, l)) here.1 e))

within-before : (n : ℕ) (text : List ℕ) → n < length text → list_all (λ b. not (eqb b 13)) (take (suc n) text) ≡ true → goes_within n text ≡ true
unfolding goes_within
within-before zero text l h = refl
within-before (suc n) [] l h = absurd (omega (arith, l))
within-before (suc n) (b ∷ []) l h = absurd (omega (arith, l))
within-before (suc n) (b ∷ c ∷ rest) l h =
    let here = and_parts (not (eqb b 13)) (list_all (λ b. not (eqb b 13)) (take (suc n) (c ∷ rest))) h in
    let next = and_parts (not (eqb c 13)) (list_all (λ b. not (eqb b 13)) (take n rest)) here.1 in
    both (not (eqb b 13)) _ here.0 (both (not (is_blank b && ends_line (c ∷ rest))) _ (ap not (and_right (is_blank b) (ends_line (c ∷ rest)) (no_end c rest next.0))) (within-before n (c ∷ rest) (omega (arith, l)) here.1))

pub within-cut : (run : ℕ) (text : List ℕ) → run ≤ length text → list_all (λ b. not (eqb b 13)) (take run text) ≡ true → goes_within (run - 1) text ≡ true
unfolding goes_within
within-cut zero text l h = refl
within-cut (suc n) text l h = let e : suc n - 1 ≡ n = omega arith in rw e (within-before n text (omega (arith, l)) h)

abbrev Parts : ℕ → ℕ → List ℕ → Type 0
Parts b n rest = ((not (eqb b 13)) ≡ true) × ((is_blank b && ends_line rest) ≡ false) × (goes_within n rest ≡ true)

within-parts : (b n : ℕ) (rest : List ℕ) → goes_within (suc n) (b ∷ rest) ≡ true → Parts b n rest
unfolding goes_within
within-parts b n rest h =
    let here = and_parts (not (eqb b 13)) (not (is_blank b && ends_line rest) && goes_within n rest) h in
    let next = and_parts (not (is_blank b && ends_line rest)) (goes_within n rest) here.1 in
    (here.0, not-true (is_blank b && ends_line rest) next.0, next.1)

within-fewer : (m n : ℕ) (text : List ℕ) → m ≤ n → n ≤ length text → goes_within n text ≡ true → goes_within m text ≡ true
unfolding goes_within
within-fewer zero n text le l h = refl
within-fewer (suc m) zero text le l h = absurd (omega (arith, le))
within-fewer (suc m) (suc n) [] le l h = absurd (omega (arith, l))
within-fewer (suc m) (suc n) (b ∷ rest) le l h =
    let parts = within-parts b n rest h in
    both (not (eqb b 13)) _ parts.0 (both (not (is_blank b && ends_line rest)) _ (ap not parts.1) (within-fewer m n rest (omega (arith, le)) (omega (arith, l)) parts.2))

within-drop : (k n m : ℕ) (text : List ℕ) → m ≡ k + n → m ≤ length text → goes_within m text ≡ true → goes_within n (drop k text) ≡ true
within-drop zero n m text e l h = subst (λ x. goes_within x text ≡ true) (let f : m ≡ n = omega (arith, e) in f) h
within-drop (suc k) n zero text e l h = absurd (omega (arith, e))
within-drop (suc k) n (suc m) [] e l h = absurd (omega (arith, l))
within-drop (suc k) n (suc m) (b ∷ rest) e l h = within-drop k n m rest (omega (arith, e)) (omega (arith, l)) (within-parts b m rest h).2

octet-within : (b : ℕ) (rest : List ℕ) → (is_blank b && ends_line rest) ≡ false → octet_item b rest ≡ within_item b
octet-within b rest e = ap (λ t. cond (may_stand_within b && not t) (plain b) (escaped b)) e ∙ by_stands (may_stand_within b)
  where
    by_stands : (t : Bool) → cond (t && true) (plain b) (escaped b) ≡ cond t (plain b) (escaped b)
    by_stands true = refl
    by_stands false = refl

within-octet : (mode : InputMode) (b n : ℕ) (rest : List ℕ) → goes_within (suc n) (b ∷ rest) ≡ true → items mode (b ∷ rest) ≡ within_item b ∷ items mode rest
within-octet mode b n rest h =
    let parts = within-parts b n rest h in
    items-octet mode b rest (no_end b rest parts.0) ∙ ap (λ i. i ∷ items mode rest) (octet-within b rest parts.1)

within-items : (mode : InputMode) (n : ℕ) (text : List ℕ) → n ≤ length text → goes_within n text ≡ true → items mode text ≡ map within_item (take n text) ++ items mode (drop n text)
within-items mode zero text l h = refl
within-items mode (suc n) [] l h = absurd (omega (arith, l))
within-items mode (suc n) (b ∷ rest) l h =
    within-octet mode b n rest h ∙ ap (λ i. within_item b ∷ i) (within-items mode n rest (omega (arith, l)) (within-parts b n rest h).2)

within-first : (mode : InputMode) (n : ℕ) (text : List ℕ) → 0 < n → n ≤ length text → goes_within n text ≡ true → items mode text ≡ within_item (get_or text 0 0) ∷ items mode (drop 1 text)
within-first mode zero text z l h = absurd (omega (arith, z))
within-first mode (suc n) [] z l h = absurd (omega (arith, l))
within-first mode (suc n) (b ∷ rest) z l h = within-octet mode b n rest h

within-goes_on : (mode : InputMode) (n : ℕ) (text : List ℕ) → 0 < n → n ≤ length text → goes_within n text ≡ true → goes_on (items mode text) ≡ true
within-goes_on mode n text z l h = ap goes_on (within-first mode n text z l h) ∙ ap not (item_soft (get_or text 0 0))

-- Items that fit, and one that doesn't.
fits_one : (limit used wide : ℕ) (more : Bool) → used + wide ≤ limit → (more ≡ true → used + wide < limit) → breaks_before limit used wide more ≡ false
fits_one limit used wide true le strict =
    let less = strict refl in
    or_from (nat_lt limit (used + wide)) (eqb (used + wide) limit && true) (le-ltb limit (used + wide) le) (and_left (eqb (used + wide) limit) true (ne_eqb (used + wide) limit (λ e. absurd (omega (arith, e, less)))))
fits_one limit used wide false le strict =
    or_from (nat_lt limit (used + wide)) (eqb (used + wide) limit && false) (le-ltb limit (used + wide) le) (and_right (eqb (used + wide) limit) false refl)

breaks_one : (limit used wide : ℕ) (more : Bool) → limit ≤ used + wide → (used + wide ≡ limit → more ≡ true) → breaks_before limit used wide more ≡ true
breaks_one limit used wide more le goes = by_far (nat_lt limit (used + wide)) refl
  where
    by_far : (t : Bool) → nat_lt limit (used + wide) ≡ t → (nat_lt limit (used + wide) || (eqb (used + wide) limit && more)) ≡ true
    by_far true e = ap (λ t. t || (eqb (used + wide) limit && more)) e
    by_far false e =
        let same : used + wide ≡ limit = omega (arith, le, ltb-false limit (used + wide) e) in
        ap (λ t. t || (eqb (used + wide) limit && more)) e ∙ both (eqb (used + wide) limit) more (eq-eqb (used + wide) limit same) (goes same)

lay-spread : (limit used : ℕ) (front : List ℕ) (list : List Item) → used + length (spread front) ≤ limit → (0 < length front → goes_on list ≡ true → used + length (spread front) < limit)
    → laid_out_from limit used (map within_item front ++ list) ≡ spread front ++ laid_out_from limit (used + length (spread front)) list
unfolding spread
lay-spread limit used [] list le strict = ap (λ n. laid_out_from limit n list) (let e : used ≡ used + 0 = omega arith in e)
lay-spread limit used (b ∷ []) list le strict =
    let all = spread-more b [] in
    let sums : used + width (within_item b) ≡ used + length (spread (b ∷ [])) = omega (arith, all) in
    lay-fits limit used (within_item b) list (item_soft b) (fits_one limit used (width (within_item b)) (goes_on list) (omega (arith, sums, le)) (λ g. omega (arith, sums, strict (omega arith) g)))
    ∙ ap (λ n. item_text (within_item b) ++ laid_out_from limit n list) sums
    ∙ ap (λ t. t ++ laid_out_from limit (used + length (spread (b ∷ []))) list) (sym (append-nil (item_text (within_item b))))
lay-spread limit used (b ∷ c ∷ front) list le strict =
    let all = spread-more b (c ∷ front) in
    let long = spread-long (c ∷ front) in
    let sums : used + width (within_item b) + length (spread (c ∷ front)) ≡ used + length (spread (b ∷ c ∷ front)) = omega (arith, all) in
    let list2 : List Item = map within_item (c ∷ front) ++ list in
    lay-fits limit used (within_item b) list2 (item_soft b) (fits_one limit used (width (within_item b)) (goes_on list2) (omega (arith, sums, le)) (λ g. omega (arith, sums, le, long)))
    ∙ ap (λ t. item_text (within_item b) ++ t) (lay-spread limit (used + width (within_item b)) (c ∷ front) list (omega (arith, sums, le)) (λ z g. omega (arith, sums, strict (omega arith) g)))
    ∙ sym (append_assoc (item_text (within_item b)) (spread (c ∷ front)) (laid_out_from limit (used + width (within_item b) + length (spread (c ∷ front))) list))
    ∙ ap (λ n. (item_text (within_item b) ++ spread (c ∷ front)) ++ laid_out_from limit n list) sums

lay-soft : (limit used b : ℕ) (rest : List Item) → 6 ≤ limit → breaks_before limit used (width (within_item b)) (goes_on rest) ≡ true
    → laid_out_from limit used (within_item b ∷ rest) ≡ 61 ∷ 13 ∷ 10 ∷ laid_out_from limit 0 (within_item b ∷ rest)
lay-soft limit used b rest six breaks =
    let short = item_short b in
    let fits = fits_one limit 0 (width (within_item b)) (goes_on rest) (omega (arith, six, short)) (λ g. omega (arith, six, short)) in
    let sums : 0 + width (within_item b) ≡ width (within_item b) = omega arith in
    lay-broken limit used (within_item b) rest (item_soft b) breaks
    ∙ ap (λ t. 61 ∷ 13 ∷ 10 ∷ t) (sym (lay-fits limit 0 (within_item b) rest (item_soft b) fits ∙ ap (λ n. item_text (within_item b) ++ laid_out_from limit n rest) sums))

-- One block of an encoder: `out` is what it has, `text` what is left of its input.
block-run : (mode : InputMode) (limit used len : ℕ) (out text : List ℕ) → len ≤ length text → goes_within len text ≡ true → used + length (spread (take len text)) ≤ limit
    → (0 < len → goes_on (items mode (drop len text)) ≡ true → used + length (spread (take len text)) < limit)
    → (out ++ spread (take len text)) ++ laid_out_from limit (used + length (spread (take len text))) (items mode (drop len text)) ≡ out ++ laid_out_from limit used (items mode text)
block-run mode limit used len out text l within le strict =
    let few = length-take-le len text l in
    append_assoc out (spread (take len text)) (laid_out_from limit (used + length (spread (take len text))) (items mode (drop len text)))
    ∙ ap (λ t. out ++ t) (sym (ap (laid_out_from limit used) (within-items mode len text l within) ∙ lay-spread limit used (take len text) (items mode (drop len text)) le (λ z g. strict (omega (arith, few, z)) g)))

-- what `fits` of the encoder tells
pub fits_says : (size left : ℕ) (hard : Bool) → (nat_lt size left || (hard && nat_le size left)) ≡ true → (size ≤ left) × (hard ≡ false → size < left)
fits_says size left hard h = by_less (nat_lt size left) refl
  where
    by_less : (t : Bool) → nat_lt size left ≡ t → (size ≤ left) × (hard ≡ false → size < left)
    by_less true e = (let below : size < left = grind (arith, nat_tests) in omega (arith, below), λ f. grind (arith, nat_tests))
    by_less false e =
        let rest : (hard && nat_le size left) ≡ true = sym (ap (λ t. t || (hard && nat_le size left)) e) ∙ h in
        let two = and_parts hard (nat_le size left) rest in
        (leb-true size left two.1, λ f. absurd (false≢true (sym f ∙ two.0)))

pub fits_not : (size left : ℕ) (hard : Bool) → (nat_lt size left || (hard && nat_le size left)) ≡ false → (left ≤ size) × (hard ≡ true → left < size)
fits_not size left hard h = by_hard hard h
  where
    by_hard : (t : Bool) → (nat_lt size left || (t && nat_le size left)) ≡ false → (left ≤ size) × (t ≡ true → left < size)
    by_hard false e = (grind (arith, nat_tests), λ f. absurd (false≢true f))
    by_hard true e = (grind (arith, nat_tests), λ f. grind (arith, nat_tests))

pub block-fits : (mode : InputMode) (limit used len : ℕ) (hard : Bool) (out new text : List ℕ) → used ≤ limit → len < length text → goes_within len text ≡ true
    → (keeps_breaks mode && begins_break (drop len text)) ≡ hard → (nat_lt (length (spread (take len text))) (limit - used) || (hard && nat_le (length (spread (take len text))) (limit - used))) ≡ true
    → new ≡ (out ++ spread (take len text)) ++ cond hard (13 ∷ 10 ∷ []) []
    → new ++ laid_out_from limit (cond hard 0 (used + length (spread (take len text)))) (items mode (drop (cond hard 2 0) (drop len text))) ≡ out ++ laid_out_from limit used (items mode text)
block-fits mode limit used len hard out new text fits l within here room is =
    let says = fits_says (length (spread (take len text))) (limit - used) hard room in
    let far = length_drop len text (omega (arith, l)) in
    let goes = goes_on-some mode (drop len text) (λ z. absurd (omega (arith, far, z, l))) ∙ ap not here in
    let strict : 0 < len → goes_on (items mode (drop len text)) ≡ true → used + length (spread (take len text)) < limit =
    λ z g. by_goes hard (sym goes ∙ g) says.1 in
    let run = block-run mode limit used len out text (omega (arith, l)) within (omega (arith, fits, says.0)) strict in
    by_hard hard here is run
  where
    by_goes : (t : Bool) → not t ≡ true → (t ≡ false → length (spread (take len text)) < limit - used) → used + length (spread (take len text)) < limit
    by_goes true g less = absurd (false≢true g)
    by_goes false g less = omega (arith, less refl)

    by_hard : (t : Bool) → (keeps_breaks mode && begins_break (drop len text)) ≡ t → new ≡ (out ++ spread (take len text)) ++ cond t (13 ∷ 10 ∷ []) []
        → (out ++ spread (take len text)) ++ laid_out_from limit (used + length (spread (take len text))) (items mode (drop len text)) ≡ out ++ laid_out_from limit used (items mode text)
        → new ++ laid_out_from limit (cond t 0 (used + length (spread (take len text)))) (items mode (drop (cond t 2 0) (drop len text))) ≡ out ++ laid_out_from limit used (items mode text)
    by_hard true h i r =
        let far = length_drop len text (omega (arith, l)) in
        ap (λ o. o ++ laid_out_from limit 0 (items mode (drop 2 (drop len text)))) i
        ∙ turn-break mode limit (used + length (spread (take len text))) (get_or (drop len text) 0 0) (out ++ spread (take len text)) (drop len text) (drop 1 (drop len text)) _
        (first_octet (drop len text) (omega (arith, far, l))) h r
    by_hard false h i r = ap (λ o. o ++ laid_out_from limit (used + length (spread (take len text))) (items mode (drop len text))) (i ∙ append-nil (out ++ spread (take len text))) ∙ r

pub block-breaks : (mode : InputMode) (limit used len most : ℕ) (hard : Bool) (out text : List ℕ) → 6 ≤ limit → used ≤ limit → len < length text → most < len → goes_within len text ≡ true
    → (keeps_breaks mode && begins_break (drop len text)) ≡ hard → (nat_lt (length (spread (take len text))) (limit - used) || (hard && nat_le (length (spread (take len text))) (limit - used))) ≡ false
    → length (spread (take most text)) ≤ limit - used - 1 → (most < len - 1 → limit - used ≤ length (spread (take (most + 1) text)))
    → ((out ++ spread (take most text)) ++ 61 ∷ 13 ∷ 10 ∷ []) ++ laid_out_from limit 0 (items mode (drop most text)) ≡ out ++ laid_out_from limit used (items mode text)
block-breaks mode limit used len most hard out text six fits l less within here room small next =
    let far = length_drop most text (omega (arith, less, l)) in
    let long = spread-long (take most text) in
    let few = length-take-le most text (omega (arith, less, l)) in
    let run = block-run mode limit used most out text (omega (arith, less, l)) (within-fewer most len text (omega (arith, less)) (omega (arith, l)) within) (omega (arith, small, fits)) (λ z g. omega (arith, small, fits, long, few, z)) in
    let split : len ≡ most + (len - most) = omega (arith, less) in
    let behind = within-drop most (len - most) len text split (omega (arith, l)) within in
    let first = within-first mode (len - most) (drop most text) (omega (arith, less)) (omega (arith, far, less, l)) behind in
    let b : ℕ = get_or (drop most text) 0 0 in
    let after : List ℕ = drop 1 (drop most text) in
    let wide : ℕ = width (within_item b) in
    let size : ℕ = length (spread (take most text)) in
    let grown = spread-next most text (omega (arith, less, l)) in
    let breaks = breaks_one limit (used + size) wide (goes_on (items mode after)) (full (ends most) grown) (more (ends most) grown) in
    let soft = lay-soft limit (used + size) b (items mode after) six breaks in
    append_assoc (out ++ spread (take most text)) (61 ∷ 13 ∷ 10 ∷ []) (laid_out_from limit 0 (items mode (drop most text)))
    ∙ ap (λ t. (out ++ spread (take most text)) ++ t) (ap (λ i. 61 ∷ 13 ∷ 10 ∷ laid_out_from limit 0 i) first ∙ sym soft ∙ ap (laid_out_from limit (used + size)) (sym first))
    ∙ run
  where
    ends : (k : ℕ) → Bool
    ends k = eqb (k + 1) len

    full : (t : Bool) → length (spread (take (most + 1) text)) ≡ length (spread (take most text)) + width (within_item (get_or (drop most text) 0 0)) → limit ≤ used + length (spread (take most text)) + width (within_item (get_or (drop most text) 0 0))
    full t grown = by_last (eqb (most + 1) len) refl
      where
        by_last : (t : Bool) → eqb (most + 1) len ≡ t → limit ≤ used + length (spread (take most text)) + width (within_item (get_or (drop most text) 0 0))
        by_last true e =
            let says = fits_not (length (spread (take len text))) (limit - used) hard room in
            let same = ap (λ n. length (spread (take n text))) (eqb-true (most + 1) len e) in
            omega (arith, says.0, same, grown, fits)
        by_last false e = omega (arith, next (grind (arith, nat_tests)), grown, fits)

    more : (t : Bool) → length (spread (take (most + 1) text)) ≡ length (spread (take most text)) + width (within_item (get_or (drop most text) 0 0))
        → used + length (spread (take most text)) + width (within_item (get_or (drop most text) 0 0)) ≡ limit → goes_on (items mode (drop 1 (drop most text))) ≡ true
    more t grown exact = by_last (eqb (most + 1) len) refl
      where
        by_hard : (h : Bool) → hard ≡ h → most + 1 ≡ len → not h ≡ true
        by_hard false e s = refl
        by_hard true e s =
            let says = fits_not (length (spread (take len text))) (limit - used) hard room in
            let same = ap (λ n. length (spread (take n text))) s in
            absurd (omega (arith, says.1 e, same, grown, exact, fits))

        by_last : (t : Bool) → eqb (most + 1) len ≡ t → goes_on (items mode (drop 1 (drop most text))) ≡ true
        by_last true e =
            let s : most + 1 ≡ len = eqb-true (most + 1) len e in
            let far = length_drop len text (omega (arith, l)) in
            let place : drop len text ≡ drop 1 (drop most text) = ap (λ n. drop n text) (let f : len ≡ suc most = omega (arith, s) in f) ∙ drop_next most text in
            ap (λ x. goes_on (items mode x)) (sym place) ∙ goes_on-some mode (drop len text) (λ z. absurd (omega (arith, far, z, l))) ∙ ap not here ∙ by_hard hard refl s
        by_last false e =
            let before : most + 1 < len = grind (arith, nat_tests) in
            let split : len ≡ suc most + (len - suc most) = omega (arith, before) in
            let far = length_drop (suc most) text (omega (arith, l, before)) in
            let behind = within-drop (suc most) (len - suc most) len text split (omega (arith, l)) within in
            ap (λ x. goes_on (items mode x)) (sym (drop_next most text)) ∙ within-goes_on mode (len - suc most) (drop (suc most) text) (omega (arith, before)) (omega (arith, far, before, l)) behind

drop_nil : (n : ℕ) → drop {A = ℕ} n [] ≡ []
drop_nil zero = refl
drop_nil (suc n) = refl

pub drop_more : (k n : ℕ) (xs : List ℕ) → drop n (drop k xs) ≡ drop (k + n) xs
drop_more zero n xs = ap (λ m. drop m xs) (let e : n ≡ 0 + n = omega arith in e)
drop_more (suc k) n [] = drop_nil n ∙ sym (drop_nil (suc k + n))
drop_more (suc k) n (x ∷ xs) = drop_more k n xs ∙ ap (λ m. drop m (x ∷ xs)) (let e : suc (k + n) ≡ suc k + n = omega arith in e)

-- What a block writes: `old` before it, and `new`.
pub spread-short : (front : List ℕ) → length (spread front) ≤ 3 * length front
spread-short [] = omega (arith, ap length spread-none)
spread-short (b ∷ front) = omega (arith, spread-more b front, item_short b, spread-short front)

pub size_few : (text : List ℕ) (len size : ℕ) → len ≤ 16 → 16 ≤ length text → size ≡ length (spread (take len text)) → size ≤ 48
size_few text len size few long is = omega (arith, few, is, spread-short (take len text), length-take-le len text (omega (arith, few, long)))

pub front_written : (old new text : List ℕ) (at len size : ℕ) → at ≤ length old → len ≤ 16 → size ≡ length (spread (take len text))
    → take (at + length (spread (take 16 text))) new ≡ take at old ++ spread (take 16 text) → take (at + size) new ≡ take at old ++ spread (take len text)
front_written old new text at len size inside few is h =
    let whole : List ℕ = take 16 text in
    let front : List ℕ = take len text in
    let more : List ℕ = drop len whole in
    let parts : spread whole ≡ spread front ++ spread more = ap spread (sym (take-append-drop len whole) ∙ ap (λ t. t ++ more) (take-take len 16 text few)) ∙ spread-append front more in
    let sizes = ap length parts ∙ length-append (spread front) (spread more) in
    let place : at + size ≡ length (take at old) + length (spread front) = omega (arith, is, length-take-le at old inside) in
    sym (take-take (at + size) (at + length (spread whole)) new (omega (arith, sizes, is)))
    ∙ ap (take (at + size)) (h ∙ ap (λ t. take at old ++ t) parts)
    ∙ ap (λ n. take n (take at old ++ (spread front ++ spread more))) place
    ∙ take-append-add (take at old) (spread front ++ spread more) (length (spread front))
    ∙ ap (λ t. take at old ++ t) (take_at (spread front) (spread more) (length (spread front)) refl)

pub kept_front : (old new tail : List ℕ) (n end : ℕ) → n ≤ length old → n ≤ end → take end new ≡ take n old ++ tail → take n new ≡ take n old
kept_front old new tail n end inside le h = sym (take-take n end new le) ∙ ap (take n) h ∙ take_at (take n old) tail n (length-take-le n old inside)

pub block_new : (hard : Bool) (middle new written : List ℕ) (place skip end : ℕ) → place ≤ length middle → skip ≡ cond hard 2 0 → end ≡ place + 2 → take end new ≡ take place middle ++ 13 ∷ 10 ∷ [] → take place middle ≡ written
    → take (place + skip) new ≡ written ++ cond hard (13 ∷ 10 ∷ []) []
block_new true middle new written place skip end inside is at h w = ap (λ n. take n new) (let e : place + skip ≡ end = omega (arith, is, at) in e) ∙ h ∙ ap (λ t. t ++ 13 ∷ 10 ∷ []) w
block_new false middle new written place skip end inside is at h w =
    ap (λ n. take n new) (let e : place + skip ≡ place = omega (arith, is) in e)
    ∙ kept_front middle new (13 ∷ 10 ∷ []) place end inside (omega (arith, at)) h ∙ w ∙ sym (append-nil written)

-- octets none of which is escaped
pub spread_plain : (xs : List ℕ) → length (spread xs) ≡ length xs → spread xs ≡ xs
unfolding spread
spread_plain [] e = refl
spread_plain (b ∷ xs) e = by_stands (may_stand_within b) refl (λ f. spread_plain xs f)
  where
    by_stands : (t : Bool) → may_stand_within b ≡ t → (length (spread xs) ≡ length xs → spread xs ≡ xs) → spread (b ∷ xs) ≡ b ∷ xs
    by_stands true h rest =
        let item : item_text (within_item b) ≡ b ∷ [] = ap (λ t. item_text (cond t (plain b) (escaped b))) h in
        ap₂ (λ a r. a ++ r) item (rest (omega (arith, e, spread-more b xs, ap length item)))
    by_stands false h rest =
        let wide : length (item_text (within_item b)) ≡ 3 = ap (λ t. length (item_text (cond t (plain b) (escaped b)))) h in
        absurd (omega (arith, e, spread-more b xs, wide, spread-long xs))
