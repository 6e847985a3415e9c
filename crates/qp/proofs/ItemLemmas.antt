-- The items of an input, and one item laid out after another.
use Rattle.std.proofs.Common.{◌≡◌, ℕ, zero, suc, ◌+◌, ◌-◌, ◌<◌, ◌≤◌, ◌/◌, ◌%◌, get_or, Bool, true, false, cond, not, ◌&&◌, eqb, nat_lt, List, [], ◌∷◌, ◌++◌, map, length, take, drop, refl, ap, ap₂, sym, ◌∙◌, subst, arith}
use Rattle.std.specs.List.{list_all}
use Rattle.std.proofs.lemmas.Bool.{true≢false, false≢true, and_parts, le-ltb, eqb-true, ne_eqb, or_from, and_left, and_right}
use Rattle.std.proofs.lemmas.Bool.Decides.{nat_tests}
use Rattle.std.proofs.lemmas.List.{append_assoc, append-nil, take-append-drop, length-take-le}
use Rattle.qp.specs.declared.InputMode.{InputMode}
use Rattle.qp.specs.declared.InputMode.TheVariants.{Text, Binary}
use Rattle.qp.specs.Items.{Item, hard_break, plain, escaped, item_text, hex_digit, is_blank, ends_blank, may_stand_within, begins_break, ends_line, octet_item, keeps_breaks, pair_items, items, entry_text, octet_entry}
use Rattle.qp.specs.Layout.{is_hard_break, goes_on, width, breaks_before, soft_break, laid_out_from}

-- The items of an input.
pub items-octet : (mode : InputMode) (b : ℕ) (rest : List ℕ) → begins_break (b ∷ rest) ≡ false → items mode (b ∷ rest) ≡ octet_item b rest ∷ items mode rest
unfolding items
items-octet mode b [] h = refl
items-octet mode b (c ∷ rest) h = rw h refl

pub items-pair : (mode : InputMode) (b c : ℕ) (rest : List ℕ) → begins_break (b ∷ c ∷ rest) ≡ true → items mode (b ∷ c ∷ rest) ≡ pair_items mode ++ items mode rest
unfolding items
items-pair mode b c rest h = rw h refl

pub octet-no_break : (b : ℕ) (rest : List ℕ) → is_hard_break (octet_item b rest) ≡ false
octet-no_break b rest = by_test (may_stand_within b && not (is_blank b && ends_line rest))
  where
    by_test : (t : Bool) → is_hard_break (cond t (plain b) (escaped b)) ≡ false
    by_test true = refl
    by_test false = refl

pub goes_on-items : (mode : InputMode) (rest : List ℕ) → ends_line rest ≡ false → goes_on (items mode rest) ≡ true
goes_on-items mode [] h = absurd (true≢false h)
goes_on-items mode (b ∷ rest) h = ap goes_on (items-octet mode b rest h) ∙ ap not (octet-no_break b rest)

-- CR and LF are always escaped
escaped-return : (rest : List ℕ) → octet_item 13 rest ≡ escaped 13
escaped-return rest = refl

escaped-feed : (rest : List ℕ) → octet_item 10 rest ≡ escaped 10
escaped-feed rest = refl

no_break-feed : (rest : List ℕ) → begins_break (10 ∷ rest) ≡ false
no_break-feed [] = refl
no_break-feed (c ∷ rest) = refl

-- the first octet, where no line break of the text stands there
pub items-single : (mode : InputMode) (b : ℕ) (rest : List ℕ) → (keeps_breaks mode && begins_break (b ∷ rest)) ≡ false → items mode (b ∷ rest) ≡ octet_item b rest ∷ items mode rest
items-single mode b [] h = items-octet mode b [] refl
items-single Text b (c ∷ rest) h = items-octet Text b (c ∷ rest) h
items-single Binary b (c ∷ rest) h = by_pair (begins_break (b ∷ c ∷ rest)) refl
  where
    by_pair : (t : Bool) → begins_break (b ∷ c ∷ rest) ≡ t → items Binary (b ∷ c ∷ rest) ≡ octet_item b (c ∷ rest) ∷ items Binary (c ∷ rest)
    by_pair false e = items-octet Binary b (c ∷ rest) e
    by_pair true e =
        let both = and_parts (eqb b 13) (eqb c 10) e in
        let first : b ≡ 13 = eqb-true b 13 both.0 in
        let second : c ≡ 10 = eqb-true c 10 both.1 in
        items-pair Binary b c rest e
        ∙ sym (rw (first, second, items-octet Binary 10 rest (no_break-feed rest)) refl)

-- the items where a line break of the text stands
pub items-break : (mode : InputMode) (b : ℕ) (rest : List ℕ) → (keeps_breaks mode && begins_break (b ∷ rest)) ≡ true → items mode (b ∷ rest) ≡ hard_break ∷ items mode (drop 1 rest)
items-break Binary b rest h = absurd (false≢true h)
items-break Text b [] h = absurd (false≢true h)
items-break Text b (c ∷ rest) h = items-pair Text b c rest h

-- whether a further item stands on the line
pub goes_on-none : (mode : InputMode) (rest : List ℕ) → length rest ≡ 0 → goes_on (items mode rest) ≡ false
unfolding items
goes_on-none mode [] h = refl
goes_on-none mode (b ∷ rest) h = absurd (omega (arith, h))

pub goes_on-some : (mode : InputMode) (rest : List ℕ) → ¬ (length rest ≡ 0) → goes_on (items mode rest) ≡ not (keeps_breaks mode && begins_break rest)
goes_on-some mode [] h = absurd (h refl)
goes_on-some mode (b ∷ rest) h = by_break (keeps_breaks mode && begins_break (b ∷ rest)) refl
  where
    by_break : (t : Bool) → (keeps_breaks mode && begins_break (b ∷ rest)) ≡ t → goes_on (items mode (b ∷ rest)) ≡ not (keeps_breaks mode && begins_break (b ∷ rest))
    by_break true e = ap goes_on (items-break mode b rest e) ∙ sym (ap not e)
    by_break false e = ap goes_on (items-single mode b rest e) ∙ ap not (octet-no_break b rest) ∙ sym (ap not e)

-- Octets that stand for themselves.
pub stands-no_break : (b : ℕ) (rest : List ℕ) → may_stand_within b ≡ true → begins_break (b ∷ rest) ≡ false
stands-no_break b [] h = refl
stands-no_break b (c ∷ rest) h = and_left (eqb b 13) (eqb c 10) (other b h)
  where
    other : (b : ℕ) → may_stand_within b ≡ true → eqb b 13 ≡ false
    other b h = grind (arith, nat_tests)

pub octet-plain : (b : ℕ) (rest : List ℕ) → may_stand_within b ≡ true → (is_blank b && ends_line rest) ≡ false → octet_item b rest ≡ plain b
octet-plain b rest h e = rw (h, e) refl

-- a run of octets that stand for themselves
pub items-run : (mode : InputMode) (front rest : List ℕ) → list_all may_stand_within front ≡ true → (ends_blank front && ends_line rest) ≡ false → items mode (front ++ rest) ≡ map plain front ++ items mode rest
items-run mode [] rest h e = refl
items-run mode (b ∷ []) rest h e =
    let here = and_parts (may_stand_within b) true h in
    items-octet mode b rest (stands-no_break b rest here.0) ∙ ap (λ i. i ∷ items mode rest) (octet-plain b rest here.0 e)
items-run mode (b ∷ c ∷ front) rest h e =
    let here = and_parts (may_stand_within b) (list_all may_stand_within (c ∷ front)) h in
    let next = and_parts (may_stand_within c) (list_all may_stand_within front) here.1 in
    let within : ends_line (c ∷ front ++ rest) ≡ false = stands-no_break c (front ++ rest) next.0 in
    items-octet mode b (c ∷ front ++ rest) (stands-no_break b (c ∷ front ++ rest) here.0)
    ∙ ap (λ i. i ∷ items mode (c ∷ front ++ rest)) (octet-plain b (c ∷ front ++ rest) here.0 (and_right (is_blank b) (ends_line (c ∷ front ++ rest)) within))
    ∙ ap (λ l. plain b ∷ l) (items-run mode (c ∷ front) rest here.1 e)

-- a run but for its last octet, behind which no line ends
items-run_shorter : (mode : InputMode) (less : ℕ) (text : List ℕ) → less < length text → list_all may_stand_within (take (suc less) text) ≡ true
    → items mode text ≡ map plain (take less text) ++ items mode (drop less text)
items-run_shorter mode zero text h e = refl
items-run_shorter mode (suc less) [] h e = absurd (omega arith)
items-run_shorter mode (suc less) (b ∷ []) h e = absurd (omega arith)
items-run_shorter mode (suc less) (b ∷ c ∷ rest) h e =
    let here = and_parts (may_stand_within b) (list_all may_stand_within (take (suc less) (c ∷ rest))) e in
    let next = and_parts (may_stand_within c) (list_all may_stand_within (take less rest)) here.1 in
    let within : ends_line (c ∷ rest) ≡ false = stands-no_break c rest next.0 in
    items-octet mode b (c ∷ rest) (stands-no_break b (c ∷ rest) here.0)
    ∙ ap (λ i. i ∷ items mode (c ∷ rest)) (octet-plain b (c ∷ rest) here.0 (and_right (is_blank b) (ends_line (c ∷ rest)) within))
    ∙ ap (λ l. plain b ∷ l) (items-run_shorter mode less (c ∷ rest) (omega arith) here.1)

pub items-shorter : (mode : InputMode) (run : ℕ) (text : List ℕ) → run ≤ length text → list_all may_stand_within (take run text) ≡ true
    → items mode text ≡ map plain (take (run - 1) text) ++ items mode (drop (run - 1) text)
items-shorter mode zero text h e = refl
items-shorter mode (suc less) text h e =
    let same : suc less - 1 ≡ less = omega arith in
    rw same (items-run_shorter mode less text (omega arith) e)

-- a whole run
pub items-whole : (mode : InputMode) (run : ℕ) (text : List ℕ) → list_all may_stand_within (take run text) ≡ true → (ends_blank (take run text) && ends_line (drop run text)) ≡ false
    → items mode text ≡ map plain (take run text) ++ items mode (drop run text)
items-whole mode run text h e = ap (items mode) (sym (take-append-drop run text)) ∙ items-run mode (take run text) (drop run text) h e

pub ends_blank-push : (front : List ℕ) (b : ℕ) → ends_blank (front ++ b ∷ []) ≡ is_blank b
ends_blank-push [] b = refl
ends_blank-push (x ∷ []) b = refl
ends_blank-push (x ∷ y ∷ front) b = ends_blank-push (y ∷ front) b

-- one item laid out
pub lay-none : (limit used : ℕ) → laid_out_from limit used [] ≡ []
unfolding laid_out_from
lay-none limit used = refl

pub lay-hard : (limit used : ℕ) (rest : List Item) → laid_out_from limit used (hard_break ∷ rest) ≡ 13 ∷ 10 ∷ laid_out_from limit 0 rest
unfolding laid_out_from
lay-hard limit used rest = refl

pub lay-broken : (limit used : ℕ) (item : Item) (rest : List Item) → is_hard_break item ≡ false → breaks_before limit used (width item) (goes_on rest) ≡ true
    → laid_out_from limit used (item ∷ rest) ≡ 61 ∷ 13 ∷ 10 ∷ item_text item ++ laid_out_from limit (width item) rest
unfolding laid_out_from
lay-broken limit used item rest h b = rw (h, b) refl

pub lay-fits : (limit used : ℕ) (item : Item) (rest : List Item) → is_hard_break item ≡ false → breaks_before limit used (width item) (goes_on rest) ≡ false
    → laid_out_from limit used (item ∷ rest) ≡ item_text item ++ laid_out_from limit (used + width item) rest
unfolding laid_out_from
lay-fits limit used item rest h b = rw (h, b) refl

-- a run of octets laid out
pub lay-run : (limit used : ℕ) (front : List ℕ) (list : List Item) → used + length front < limit → laid_out_from limit used (map plain front ++ list) ≡ front ++ laid_out_from limit (used + length front) list
lay-run limit used [] list h = ap (λ n. laid_out_from limit n list) (let e : used ≡ used + 0 = omega arith in e)
lay-run limit used (b ∷ front) list h =
    let far : nat_lt limit (used + 1) ≡ false = le-ltb limit (used + 1) (omega arith) in
    let short : eqb (used + 1) limit ≡ false = ne_eqb (used + 1) limit (λ e. absurd (omega (arith, e, h))) in
    let fits : breaks_before limit used 1 (goes_on (map plain front ++ list)) ≡ false =
    or_from (nat_lt limit (used + 1)) (eqb (used + 1) limit && goes_on (map plain front ++ list)) far (and_left (eqb (used + 1) limit) (goes_on (map plain front ++ list)) short) in
    let sums : used + 1 + length front ≡ used + length (b ∷ front) = omega arith in
    lay-fits limit used (plain b) (map plain front ++ list) refl fits
    ∙ ap (λ t. b ∷ t) (lay-run limit (used + 1) front list (omega arith) ∙ ap (λ n. front ++ laid_out_from limit n list) sums)

-- an item that is written as `breaks_before` says
pub placed : (limit used now : ℕ) (item : Item) (text : List ℕ) (more : Bool) (list : List Item) (out new : List ℕ) → is_hard_break item ≡ false → text ≡ item_text item → goes_on list ≡ more
    → (breaks_before limit used (length text) more ≡ true → (new ≡ out ++ soft_break ++ text) × (now ≡ length text))
    → (breaks_before limit used (length text) more ≡ false → (new ≡ out ++ text) × (now ≡ used + length text))
    → new ++ laid_out_from limit now list ≡ out ++ laid_out_from limit used (item ∷ list)
placed limit used now item text more list out new soft is goes broken fitting = by_break (breaks_before limit used (length text) more) refl
  where
    same : (t : Bool) → breaks_before limit used (length text) more ≡ t → breaks_before limit used (width item) (goes_on list) ≡ t
    same t e = ap (λ x. breaks_before limit used (length x) (goes_on list)) (sym is) ∙ ap (breaks_before limit used (length text)) goes ∙ e

    by_break : (t : Bool) → breaks_before limit used (length text) more ≡ t → new ++ laid_out_from limit now list ≡ out ++ laid_out_from limit used (item ∷ list)
    by_break true e =
        let facts = broken e in
        ap (λ w. w ++ laid_out_from limit now list) facts.0
        ∙ ap (λ n. (out ++ soft_break ++ text) ++ laid_out_from limit n list) facts.1
        ∙ append_assoc (out ++ soft_break) text (laid_out_from limit (length text) list)
        ∙ append_assoc out soft_break (text ++ laid_out_from limit (length text) list)
        ∙ ap (λ x. out ++ (soft_break ++ (x ++ laid_out_from limit (length x) list))) is
        ∙ ap (λ w. out ++ w) (sym (lay-broken limit used item list soft (same true e)))
    by_break false e =
        let facts = fitting e in
        ap (λ w. w ++ laid_out_from limit now list) facts.0
        ∙ ap (λ n. (out ++ text) ++ laid_out_from limit n list) facts.1
        ∙ append_assoc out text (laid_out_from limit (used + length text) list)
        ∙ ap (λ x. out ++ (x ++ laid_out_from limit (used + length x) list)) is
        ∙ ap (λ w. out ++ w) (sym (lay-fits limit used item list soft (same false e)))

pub octet-stands : (b : ℕ) (rest : List ℕ) → (may_stand_within b && not (is_blank b && ends_line rest)) ≡ true → octet_item b rest ≡ plain b
octet-stands b rest h = rw h refl

pub octet-escaped : (b : ℕ) (rest : List ℕ) → (may_stand_within b && not (is_blank b && ends_line rest)) ≡ false → octet_item b rest ≡ escaped b
octet-escaped b rest h = rw h refl

-- an octet at the end of a line of the input, and elsewhere
pub within-ends : (b : ℕ) (rest : List ℕ) → ends_line rest ≡ true → (may_stand_within b && not (is_blank b && ends_line rest)) ≡ (may_stand_within b && not (is_blank b))
within-ends b rest e = ap (λ t. may_stand_within b && not (is_blank b && t)) e ∙ ap (λ t. may_stand_within b && not t) (by_blank (is_blank b))
  where
    by_blank : (t : Bool) → (t && true) ≡ t
    by_blank true = refl
    by_blank false = refl

pub within-goes : (b : ℕ) (rest : List ℕ) → ends_line rest ≡ false → (may_stand_within b && not (is_blank b && ends_line rest)) ≡ may_stand_within b
within-goes b rest e = ap (λ t. may_stand_within b && not t) (and_right (is_blank b) (ends_line rest) e) ∙ by_stands (may_stand_within b)
  where
    by_stands : (t : Bool) → (t && true) ≡ t
    by_stands true = refl
    by_stands false = refl

-- An entry that is written as `breaks_before` says.
module _ (limit used now : ℕ) (more : Bool) (list : List Item) (out new : List ℕ) (goes : goes_on list ≡ more) where
  abbrev Written : List ℕ → Type 0
  Written entry = (breaks_before limit used (get_or entry 3 0) more ≡ true → (new ≡ out ++ soft_break ++ entry_text entry) × (now ≡ get_or entry 3 0))
      × (breaks_before limit used (get_or entry 3 0) more ≡ false → (new ≡ out ++ entry_text entry) × (now ≡ used + get_or entry 3 0))

  abbrev Stands : Item → Type 0
  Stands item = new ++ laid_out_from limit now list ≡ out ++ laid_out_from limit used (item ∷ list)

  written-plain : (b u v : ℕ) → Written (b ∷ u ∷ v ∷ 1 ∷ []) → Stands (plain b)
  written-plain b u v w = placed limit used now (plain b) (b ∷ []) more list out new refl refl goes w.0 w.1

  written-escaped : (b : ℕ) → Written (61 ∷ hex_digit (b / 16) ∷ hex_digit (b % 16) ∷ 3 ∷ []) → Stands (escaped b)
  written-escaped b w = placed limit used now (escaped b) (61 ∷ hex_digit (b / 16) ∷ hex_digit (b % 16) ∷ []) more list out new refl refl goes w.0 w.1

  pub placed-entry : (b : ℕ) (rest entry : List ℕ) (stands : Bool) → entry ≡ octet_entry stands b → (may_stand_within b && not (is_blank b && ends_line rest)) ≡ stands
      → Written entry → Stands (octet_item b rest)
  placed-entry b rest entry true e is w =
      subst Stands (sym (octet-stands b rest is)) (written-plain b (hex_digit (b / 16)) (hex_digit (b % 16)) (subst Written e w))
  placed-entry b rest entry false e is w = subst Stands (sym (octet-escaped b rest is)) (written-escaped b (subst Written e w))

-- One turn of the encoder: `out` is what it has, `text` what is left of its input.
pub turn-run : (mode : InputMode) (limit used run : ℕ) (out text total : List ℕ) → run ≤ length text → used + run < limit
    → items mode text ≡ map plain (take run text) ++ items mode (drop run text)
    → out ++ laid_out_from limit used (items mode text) ≡ total
    → (out ++ take run text) ++ laid_out_from limit (used + run) (items mode (drop run text)) ≡ total
turn-run mode limit used run out text total within below e h =
    let wide : length (take run text) ≡ run = length-take-le run text within in
    let room : used + length (take run text) < limit = omega arith in
    append_assoc out (take run text) (laid_out_from limit (used + run) (items mode (drop run text)))
    ∙ ap (λ n. out ++ (take run text ++ laid_out_from limit (used + n) (items mode (drop run text)))) (sym wide)
    ∙ ap (λ t. out ++ t) (sym (ap (laid_out_from limit used) e ∙ lay-run limit used (take run text) (items mode (drop run text)) room))
    ∙ h

pub turn-break : (mode : InputMode) (limit used b : ℕ) (out text rest total : List ℕ) → text ≡ b ∷ rest → (keeps_breaks mode && begins_break text) ≡ true
    → out ++ laid_out_from limit used (items mode text) ≡ total
    → (out ++ 13 ∷ 10 ∷ []) ++ laid_out_from limit 0 (items mode (drop 2 text)) ≡ total
turn-break mode limit used b out text rest total e k h =
    let here : (keeps_breaks mode && begins_break (b ∷ rest)) ≡ true = rw e at k in
    append_assoc out (13 ∷ 10 ∷ []) (laid_out_from limit 0 (items mode (drop 2 text)))
    ∙ ap (λ t. out ++ t) (sym (ap (λ t. laid_out_from limit used (items mode t)) e
    ∙ ap (laid_out_from limit used) (items-break mode b rest here)
    ∙ lay-hard limit used (items mode (drop 1 rest))
    ∙ ap (λ t. 13 ∷ 10 ∷ laid_out_from limit 0 (items mode (drop 2 t))) (sym e)))
    ∙ h

pub turn-octet : (mode : InputMode) (limit used now b : ℕ) (out new text rest total : List ℕ) → text ≡ b ∷ rest → (keeps_breaks mode && begins_break text) ≡ false
    → new ++ laid_out_from limit now (items mode rest) ≡ out ++ laid_out_from limit used (octet_item b rest ∷ items mode rest)
    → out ++ laid_out_from limit used (items mode text) ≡ total
    → new ++ laid_out_from limit now (items mode rest) ≡ total
turn-octet mode limit used now b out new text rest total e k f h =
    f ∙ ap (λ t. out ++ t) (sym (ap (λ t. laid_out_from limit used (items mode t)) e ∙ ap (laid_out_from limit used) (items-single mode b rest (rw e at k)))) ∙ h

-- The same for a run that may be empty, of which `rest` is left.
pub turn-front : (mode : InputMode) (limit used run : ℕ) (out new text rest : List ℕ) → used ≤ limit → run ≤ length text → run ≤ limit - used - 1
    → new ≡ out ++ take run text → items mode text ≡ map plain (take run text) ++ items mode (drop run text) → rest ≡ drop run text
    → new ++ laid_out_from limit (used + run) (items mode rest) ≡ out ++ laid_out_from limit used (items mode text)
turn-front mode limit used run out new text rest fits within below is e r =
    ap₂ (λ n t. n ++ laid_out_from limit (used + run) (items mode t)) is r ∙ by_run run within below e
  where
    by_run : (k : ℕ) → k ≤ length text → k ≤ limit - used - 1 → items mode text ≡ map plain (take k text) ++ items mode (drop k text)
        → (out ++ take k text) ++ laid_out_from limit (used + k) (items mode (drop k text)) ≡ out ++ laid_out_from limit used (items mode text)
    by_run zero h b i = ap₂ (λ o n. o ++ laid_out_from limit n (items mode text)) (append-nil out) (let sums : used + 0 ≡ used = omega arith in sums)
    by_run (suc k) h b i = turn-run mode limit used (suc k) out text _ h (omega arith) i refl
