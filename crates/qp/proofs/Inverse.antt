-- What an encoder lays out is read back.
use Rattle.std.proofs.Common.{◌≡◌, ℕ, zero, suc, ◌+◌, ◌<◌, ◌≤◌, Bool, true, false, cond, not, ◌||◌, ◌&&◌, eqb, nat_lt, nat_le, inl, inr, Option, Some, None, Ok, List, [], ◌∷◌, ◌++◌, map, length, get_or, refl, ap, sym, ◌∙◌, subst, arith}
use Rattle.std.specs.List.{list_any, flat_map, All, AllByRecursion as ByRecursion}
use Rattle.std.proofs.lemmas.Bool.{true≢false, false≢true, and_parts, or_parts, and_cases, or_cases, ltb-false, le-ltb, eqb-true, eqb-false, ne_eqb, not-true, not-false, or_left, or_right, and_from, leb-true, false_from_ne_true}
use Rattle.std.proofs.lemmas.Bool.Decides.{nat_tests}
use Rattle.std.specs.Str.{IsUtf8}
use Rattle.std.proofs.lemmas.Str.{IsUtf8-from_ascii}
use Rattle.std.proofs.lemmas.List.Elements.{recursion_from_All}
use Rattle.qp.specs.declared.InputMode.{InputMode}
use Rattle.qp.specs.declared.QuotedPrintableError.{QuotedPrintableError}
use Rattle.qp.specs.declared.InputMode.TheVariants.{Text, Binary}
use Rattle.qp.specs.Text.{is_text_octet, kept, trimmed, lines}
use Rattle.qp.specs.Line.{parts, values, ends_soft, line_value, is_soft}
use Rattle.qp.specs.Robust.{joined, robust}
use Rattle.qp.specs.Strict.{first_fault, part_fault, line_fault, lines_fault, last_line, without_empty_end, ends_open, has_invalid_byte, strict_fault, strict, or_fault}
use Rattle.qp.specs.Items.{Item, hard_break, plain, escaped, is_blank, is_graphic, may_stand_within, begins_break, ends_line, octet_item, pair_items, items}
use Rattle.qp.specs.Layout.{goes_on, breaks_before, laid_out_from, laid_out}
use Rattle.qp.proofs.ItemLemmas.{items-octet, items-pair, goes_on-items, lay-none, lay-hard, lay-broken, lay-fits}
use Rattle.qp.proofs.Stripped.{stripped, trimmed-none}
use Rattle.qp.proofs.Readback.{Fine, Closed, value_of, inked}
use Rattle.qp.proofs.Scanning.{Scans, Ink, ink, scans-none, scans-graphic, scans-blank, scans-escape, scans-hard, scans-soft, inked-ink, inked-within, is_ink}

-- Items that an encoder makes.
abbrev pub GoodItem : Item → List Item → Type 0
GoodItem hard_break rest = Unit {0}
GoodItem (plain b) rest = (is_graphic b || (is_blank b && goes_on rest)) ≡ true
GoodItem (escaped b) rest = b < 256

abbrev pub Good : List Item → Type 0
Good [] = Unit {0}
Good (item ∷ rest) = GoodItem item rest × Good rest

-- the octets that items stand for
abbrev pub item_value : Item → List ℕ
item_value hard_break = 13 ∷ 10 ∷ []
item_value (plain b) = b ∷ []
item_value (escaped b) = b ∷ []

abbrev pub items_value : List Item → List ℕ
items_value list = flat_map item_value list

-- where no soft break comes
pub fits : (limit used wide : ℕ) (more : Bool) → breaks_before limit used wide more ≡ false → (used + wide ≤ limit) × (more ≡ true → used + wide < limit)
fits limit used wide more h =
    let both = or_parts (nat_lt limit (used + wide)) (eqb (used + wide) limit && more) h in
    let within : used + wide ≤ limit = ltb-false limit (used + wide) both.0 in (
      within,
      λ goes. elim (and_cases (eqb (used + wide) limit) more both.1) [
        | inl other ↦ let ne : ¬ (used + wide ≡ limit) = eqb-false (used + wide) limit other in omega arith
        | inr stops ↦ absurd (true≢false (sym goes ∙ stops))
      ],
    )

graphic-ink : (b : ℕ) → is_graphic b ≡ true → Ink b
graphic-ink b h =
    let parts = and_parts (is_ink b) (not (eqb b 61)) h in
    let bounds = and_parts (nat_le 33 b) (nat_le b 126) parts.0 in
    ink b (leb-true 33 b bounds.0) (leb-true b 126 bounds.1)

blank-feed : (b : ℕ) → is_blank b ≡ true → eqb b 10 ≡ false
blank-feed b h = grind (arith, nat_tests)

equals-ink : Ink 61
equals-ink = ink 61 (omega arith) (omega arith)

inked-plain : (b : ℕ) (rest : List Item) (text : List ℕ) → GoodItem (plain b) rest → (goes_on rest ≡ true → inked (stripped text) ≡ true) → inked (stripped (b ∷ text)) ≡ true
inked-plain b rest text h i = elim (or_cases (is_graphic b) (is_blank b && goes_on rest) h) [
  | inl graphic ↦ inked-ink b text (graphic-ink b graphic)
  | inr within ↦
      let both = and_parts (is_blank b) (goes_on rest) within in
      inked-within b text (blank-feed b both.0) (i both.1)
]

-- a line that goes on has something on it
pub inked-lay : (limit used : ℕ) (list : List Item) → goes_on list ≡ true → Good list → inked (stripped (laid_out_from limit used list)) ≡ true
inked-lay limit used [] g h = absurd (false≢true g)
inked-lay limit used (hard_break ∷ rest) g h = absurd (false≢true g)
inked-lay limit used (escaped b ∷ rest) g h = by_break (breaks_before limit used 3 (goes_on rest)) refl
  where
    by_break : (t : Bool) → breaks_before limit used 3 (goes_on rest) ≡ t → inked (stripped (laid_out_from limit used (escaped b ∷ rest))) ≡ true
    by_break true e = ap (λ t. inked (stripped t)) (lay-broken limit used (escaped b) rest refl e) ∙ inked-ink 61 _ equals-ink
    by_break false e = ap (λ t. inked (stripped t)) (lay-fits limit used (escaped b) rest refl e) ∙ inked-ink 61 _ equals-ink
inked-lay limit used (plain b ∷ rest) g h = by_break (breaks_before limit used 1 (goes_on rest)) refl (λ i. inked-lay limit (used + 1) rest i h.1)
  where
    by_break : (t : Bool) → breaks_before limit used 1 (goes_on rest) ≡ t → (goes_on rest ≡ true → inked (stripped (laid_out_from limit (used + 1) rest)) ≡ true)
        → inked (stripped (laid_out_from limit used (plain b ∷ rest))) ≡ true
    by_break true e later = ap (λ t. inked (stripped t)) (lay-broken limit used (plain b) rest refl e) ∙ inked-ink 61 _ equals-ink
    by_break false e later = ap (λ t. inked (stripped t)) (lay-fits limit used (plain b) rest refl e) ∙ inked-plain b rest _ h.0 later

-- an item that stands for itself, behind `used` octets of a line
scans-plain : (limit used b : ℕ) (rest : List Item) (text v : List ℕ) → GoodItem (plain b) rest → (goes_on rest ≡ true → inked (stripped text) ≡ true)
    → Scans limit (used + 1) text v → Scans limit used (b ∷ text) (b ∷ v)
scans-plain limit used b rest text v h i r = elim (or_cases (is_graphic b) (is_blank b && goes_on rest) h) [
  | inl graphic ↦ scans-graphic limit used b text v graphic r
  | inr within ↦
      let both = and_parts (is_blank b) (goes_on rest) within in
      scans-blank limit used b text v both.0 (i both.1) r
]

-- what is laid out of the items behind is read
abbrev Later : ℕ → List Item → Type 0
Later limit rest = (u : ℕ) → u ≤ limit → (goes_on rest ≡ true → u < limit) → Scans limit u (laid_out_from limit u rest) (items_value rest)

scans-lay-plain : (limit used b : ℕ) (rest : List Item) → 6 ≤ limit → (true ≡ true → used < limit) → Good (plain b ∷ rest) → Later limit rest
    → Scans limit used (laid_out_from limit used (plain b ∷ rest)) (items_value (plain b ∷ rest))
scans-lay-plain limit used b rest six room h later = by_break (breaks_before limit used 1 (goes_on rest)) refl
  where
    by_break : (t : Bool) → breaks_before limit used 1 (goes_on rest) ≡ t → Scans limit used (laid_out_from limit used (plain b ∷ rest)) (items_value (plain b ∷ rest))
    by_break true e =
        let below : used < limit = room refl in
        subst (λ t. Scans limit used t (items_value (plain b ∷ rest))) (sym (lay-broken limit used (plain b) rest refl e))
        (scans-soft limit used _ _ (omega arith) (inked-plain b rest _ h.0 (λ g. inked-lay limit 1 rest g h.1))
        (scans-plain limit 0 b rest _ _ h.0 (λ g. inked-lay limit 1 rest g h.1) (later 1 (omega arith) (λ g. omega arith))))
    by_break false e =
        let within = fits limit used 1 (goes_on rest) e in
        subst (λ t. Scans limit used t (items_value (plain b ∷ rest))) (sym (lay-fits limit used (plain b) rest refl e))
        (scans-plain limit used b rest _ _ h.0 (λ g. inked-lay limit (used + 1) rest g h.1) (later (used + 1) within.0 within.1))

scans-lay-escaped : (limit used b : ℕ) (rest : List Item) → 6 ≤ limit → (true ≡ true → used < limit) → Good (escaped b ∷ rest) → Later limit rest
    → Scans limit used (laid_out_from limit used (escaped b ∷ rest)) (items_value (escaped b ∷ rest))
scans-lay-escaped limit used b rest six room h later = by_break (breaks_before limit used 3 (goes_on rest)) refl
  where
    by_break : (t : Bool) → breaks_before limit used 3 (goes_on rest) ≡ t → Scans limit used (laid_out_from limit used (escaped b ∷ rest)) (items_value (escaped b ∷ rest))
    by_break true e =
        let below : used < limit = room refl in
        subst (λ t. Scans limit used t (items_value (escaped b ∷ rest))) (sym (lay-broken limit used (escaped b) rest refl e))
        (scans-soft limit used _ _ (omega arith) (inked-ink 61 _ equals-ink)
        (scans-escape limit 0 b _ _ h.0 (later 3 (omega arith) (λ g. omega arith))))
    by_break false e =
        let within = fits limit used 3 (goes_on rest) e in
        subst (λ t. Scans limit used t (items_value (escaped b ∷ rest))) (sym (lay-fits limit used (escaped b) rest refl e))
        (scans-escape limit used b _ _ h.0 (later (used + 3) within.0 within.1))

-- what is laid out behind `used` octets of a line is read without a fault, and is what the items stand for
pub scans-lay : (limit used : ℕ) (list : List Item) → 6 ≤ limit → used ≤ limit → (goes_on list ≡ true → used < limit) → Good list
    → Scans limit used (laid_out_from limit used list) (items_value list)
scans-lay limit used [] six most room h = subst (λ t. Scans limit used t []) (sym (lay-none limit used)) (scans-none limit used most)
scans-lay limit used (hard_break ∷ rest) six most room h =
    subst (λ t. Scans limit used t (items_value (hard_break ∷ rest))) (sym (lay-hard limit used rest))
    (scans-hard limit used _ _ most (scans-lay limit 0 rest six (omega arith) (λ g. omega (arith, six)) h.1))
scans-lay limit used (plain b ∷ rest) six most room h =
    scans-lay-plain limit used b rest six room h (λ u m g. scans-lay limit u rest six m g h.1)
scans-lay limit used (escaped b ∷ rest) six most room h =
    scans-lay-escaped limit used b rest six room h (λ u m g. scans-lay limit u rest six m g h.1)

-- The items of an input.
octet-value : (b : ℕ) (rest : List ℕ) → item_value (octet_item b rest) ≡ b ∷ []
octet-value b rest = by_test (may_stand_within b && not (is_blank b && ends_line rest))
  where
    by_test : (t : Bool) → item_value (cond t (plain b) (escaped b)) ≡ b ∷ []
    by_test true = refl
    by_test false = refl

pair-value : (mode : InputMode) (list : List Item) → items_value (pair_items mode ++ list) ≡ 13 ∷ 10 ∷ items_value list
pair-value Text list = refl
pair-value Binary list = refl

-- the items of an input stand for it
pub items-value : (mode : InputMode) (bytes : List ℕ) → items_value (items mode bytes) ≡ bytes
unfolding items
items-value mode [] = refl
items-value mode (b ∷ []) = ap (λ v. v ++ []) (octet-value b [])
items-value mode (b ∷ c ∷ rest) = by_pair (begins_break (b ∷ c ∷ rest)) refl (items-value mode rest) (items-value mode (c ∷ rest))
  where
    by_pair : (t : Bool) → begins_break (b ∷ c ∷ rest) ≡ t → items_value (items mode rest) ≡ rest → items_value (items mode (c ∷ rest)) ≡ c ∷ rest
        → items_value (items mode (b ∷ c ∷ rest)) ≡ b ∷ c ∷ rest
    by_pair true e past next =
        let both = and_parts (eqb b 13) (eqb c 10) e in
        let first : b ≡ 13 = eqb-true b 13 both.0 in
        let second : c ≡ 10 = eqb-true c 10 both.1 in
        ap items_value (items-pair mode b c rest e) ∙ pair-value mode (items mode rest) ∙ cc
    by_pair false e past next =
        ap items_value (items-octet mode b (c ∷ rest) e) ∙ ap (λ v. v ++ items_value (items mode (c ∷ rest))) (octet-value b (c ∷ rest)) ∙ ap (λ v. b ∷ v) next

good-octet : (mode : InputMode) (b : ℕ) (rest : List ℕ) → b < 256 → GoodItem (octet_item b rest) (items mode rest)
good-octet mode b rest h = by_test (may_stand_within b && not (is_blank b && ends_line rest)) refl
  where
    by_test : (t : Bool) → (may_stand_within b && not (is_blank b && ends_line rest)) ≡ t → GoodItem (cond t (plain b) (escaped b)) (items mode rest)
    by_test false e = h
    by_test true e =
        let both = and_parts (may_stand_within b) (not (is_blank b && ends_line rest)) e in
        elim (or_cases (is_graphic b) (is_blank b) both.0) [
          | inl graphic ↦ or_left (is_graphic b) (is_blank b && goes_on (items mode rest)) graphic
          | inr blank ↦
              let within : ends_line rest ≡ false = rw blank at (not-true (is_blank b && ends_line rest) both.1) in
              or_right (is_graphic b) (is_blank b && goes_on (items mode rest))
              (and_from (is_blank b) (goes_on (items mode rest)) blank (goes_on-items mode rest within))
        ]

good-pair : (mode : InputMode) (list : List Item) → Good list → Good (pair_items mode ++ list)
good-pair Text list h = (tt, h)
good-pair Binary list h = (omega arith, (omega arith, h))

pub items-good : (mode : InputMode) (bytes : List ℕ) → ByRecursion (λ b. b < 256) bytes → Good (items mode bytes)
unfolding items
items-good mode [] h = tt
items-good mode (b ∷ []) h = (good-octet mode b [] h.0, tt)
items-good mode (b ∷ c ∷ rest) h = by_pair (begins_break (b ∷ c ∷ rest)) refl (items-good mode rest h.1.1) (items-good mode (c ∷ rest) h.1)
  where
    by_pair : (t : Bool) → begins_break (b ∷ c ∷ rest) ≡ t → Good (items mode rest) → Good (items mode (c ∷ rest)) → Good (items mode (b ∷ c ∷ rest))
    by_pair true e past next = subst Good (sym (items-pair mode b c rest e)) (good-pair mode (items mode rest) past)
    by_pair false e past next = subst Good (sym (items-octet mode b (c ∷ rest) e)) (good-octet mode b (c ∷ rest) h.0, next)

-- A text that is read without a fault has its strict value.
or_fault-none : (a b : Option QuotedPrintableError) → or_fault a b ≡ None → (a ≡ None) × (b ≡ None)
or_fault-none None b h = (refl, h)
or_fault-none (Some e) b h = (cc, cc)

fine-line : (limit used : ℕ) (line : List ℕ) → used + length (trimmed line) ≤ limit → first_fault part_fault (parts (trimmed line)) ≡ None → line_fault limit line ≡ None
unfolding line_fault
fine-line limit used line most none = rw (le-ltb limit (length (trimmed line)) (omega arith)) none

fine-lines : (limit used : ℕ) (ls : List (List ℕ)) → Fine limit used (map trimmed ls) → first_fault (line_fault limit) ls ≡ None
unfolding Fine first_fault
fine-lines limit used [] h = refl
fine-lines limit used (line ∷ rest) h = rw (fine-line limit used line h.0 h.1) (fine-lines limit 0 rest h.2)

fine-without : (limit : ℕ) (ls : List (List ℕ)) → first_fault (line_fault limit) ls ≡ None → first_fault (line_fault limit) (without_empty_end ls) ≡ None
unfolding first_fault without_empty_end
fine-without limit [] h = refl
fine-without limit (line ∷ []) h = by_length (eqb (length line) 0)
  where
    by_length : (t : Bool) → first_fault (line_fault limit) (cond t [] (line ∷ [])) ≡ None
    by_length true = refl
    by_length false = h
fine-without limit (line ∷ next ∷ rest) h =
    let both = or_fault-none (line_fault limit line) (first_fault (line_fault limit) (next ∷ rest)) h in
    rw both.0 (fine-without limit (next ∷ rest) both.1)

soft-none : is_soft [] ≡ false
unfolding is_soft ends_soft parts trimmed
soft-none = refl

without-none : (next : List ℕ) (rest : List (List ℕ)) → without_empty_end (next ∷ rest) ≡ [] → inked (map trimmed (next ∷ rest)) ≡ false
unfolding without_empty_end
without-none next [] h = by_length next refl
  where
    by_length : (line : List ℕ) → next ≡ line → inked (trimmed next ∷ []) ≡ false
    by_length [] e = ap (λ t. inked (t ∷ [])) (ap trimmed e ∙ trimmed-none)
    by_length (b ∷ line) e =
        let some : eqb (length next) 0 ≡ false = ne_eqb (length next) 0 (λ z. absurd (omega (arith, z, ap length e))) in
        let wrong : next ∷ [] ≡ [] = rw some at h in
        cc
without-none next (m ∷ rest) h = cc

closed-last : (ls : List (List ℕ)) → Closed (map trimmed ls) → is_soft (last_line (without_empty_end ls)) ≡ false
unfolding Closed without_empty_end last_line is_soft
closed-last [] h = soft-none
closed-last (line ∷ []) h = by_length (eqb (length line) 0)
  where
    by_length : (t : Bool) → is_soft (last_line (cond t [] (line ∷ []))) ≡ false
    by_length true = soft-none
    by_length false = false_from_ne_true (is_soft line) (λ soft. false≢true (h.0 soft))
closed-last (line ∷ next ∷ rest) h = by_rest (without_empty_end (next ∷ rest)) refl (closed-last (next ∷ rest) h.1)
  where
    by_rest : (w : List (List ℕ)) → without_empty_end (next ∷ rest) ≡ w → is_soft (last_line (without_empty_end (next ∷ rest))) ≡ false → is_soft (last_line (line ∷ without_empty_end (next ∷ rest))) ≡ false
    by_rest [] e later = ap (λ w. is_soft (last_line (line ∷ w))) e
        ∙ false_from_ne_true (is_soft line) (λ soft. false≢true (sym (without-none next rest e) ∙ h.0 soft))
    by_rest (m ∷ w) e later = ap (λ w. is_soft (last_line (line ∷ w))) e ∙ sym (ap (λ w. is_soft (last_line w)) e) ∙ later

open-closed : (ls : List (List ℕ)) → is_soft (last_line ls) ≡ false → ends_open ls ≡ false
unfolding ends_open
open-closed ls h = rw h refl

pub kept-all : (text : List ℕ) → list_any (λ b. not (is_text_octet b)) text ≡ false → kept text ≡ text
unfolding kept
kept-all [] h = refl
kept-all (b ∷ text) h =
    let both = or_parts (not (is_text_octet b)) (list_any (λ b. not (is_text_octet b)) text) h in
    rw (not-false (is_text_octet b) both.0) (ap (λ t. b ∷ t) (kept-all text both.1))

pub joined-value_of : (ls : List (List ℕ)) → joined ls ≡ value_of (map trimmed ls)
unfolding joined value_of line_value is_soft
joined-value_of [] = refl
joined-value_of (line ∷ []) = refl
joined-value_of (line ∷ next ∷ rest) = ap (λ v. (values (parts (trimmed line)) ++ cond (ends_soft (parts (trimmed line))) [] (13 ∷ 10 ∷ [])) ++ v) (joined-value_of (next ∷ rest))

no_fault : (limit : ℕ) (text v : List ℕ) → Scans limit 0 text v → strict_fault limit text ≡ None
unfolding strict_fault has_invalid_byte lines_fault stripped
no_fault limit text v r =
    rw (r.octets, r.pairs, fine-without limit (lines text) (fine-lines limit 0 (lines text) r.reads.fine), open-closed (without_empty_end (lines text)) (closed-last (lines text) r.reads.closed)) refl

robust-scans : (limit : ℕ) (text v : List ℕ) → Scans limit 0 text v → robust text ≡ v
unfolding robust stripped
robust-scans limit text v r = ap (λ t. joined (lines t)) (kept-all text r.octets) ∙ joined-value_of (lines text) ∙ r.reads.value

strict-scans : (limit : ℕ) (text v : List ℕ) → Scans limit 0 text v → strict limit text ≡ Ok v
unfolding strict
strict-scans limit text v r = rw (no_fault limit text v r) (ap Ok (robust-scans limit text v r))

pub reads_back_law : (mode : InputMode) (limit : ℕ) (bytes : List ℕ) → 6 ≤ limit → All (λ b. b < 256) bytes → strict limit (laid_out limit (items mode bytes)) ≡ Ok bytes
unfolding laid_out
reads_back_law mode limit bytes six h =
    strict-scans limit _ _ (scans-lay limit 0 (items mode bytes) six (omega arith) (λ g. omega arith) (items-good mode bytes (recursion_from_All (λ b. b < 256) bytes h)))
    ∙ ap Ok (items-value mode bytes)

-- what is laid out is ASCII
ascii-octets : (text : List ℕ) (i : ℕ) → list_any (λ b. not (is_text_octet b)) text ≡ false → get_or text i 0 < 128
ascii-octets [] i h = omega arith
ascii-octets (b ∷ text) zero h =
    let both = or_parts (not (is_text_octet b)) (list_any (λ b. not (is_text_octet b)) text) h in
    ascii-octet b (not-false (is_text_octet b) both.0)
  where
    ascii-octet : (b : ℕ) → is_text_octet b ≡ true → b < 128
    ascii-octet b h = grind (arith, nat_tests)
ascii-octets (b ∷ text) (suc i) h =
    let both = or_parts (not (is_text_octet b)) (list_any (λ b. not (is_text_octet b)) text) h in
    ascii-octets text i both.1

pub utf8_law : (mode : InputMode) (limit : ℕ) (bytes : List ℕ) → 6 ≤ limit → All (λ b. b < 256) bytes → IsUtf8 (laid_out limit (items mode bytes))
unfolding laid_out
utf8_law mode limit bytes six h =
    IsUtf8-from_ascii _ (λ i. ascii-octets _ i (scans-lay limit 0 (items mode bytes) six (omega arith) (λ g. omega arith) (items-good mode bytes (recursion_from_All (λ b. b < 256) bytes h))).octets)
