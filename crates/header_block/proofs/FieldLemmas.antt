-- Fields of a text whose front is known.
use Rattle.std.proofs.Common.{◌≡◌, ℕ, zero, suc, ◌+◌, ◌<◌, ◌≤◌, true, false, Bool, cond, eqb, List, [], ◌∷◌, ◌++◌, length, refl, sym, subst, ap, ◌∙◌, append_assoc, append-nil, length-append, length-drop, take, drop, get_or, arith}
use Rattle.std.proofs.Math.Nat.{lt_irrefl}
use Rattle.std.proofs.Math.Seq.{take-nil}
use Rattle.std.proofs.lemmas.Bool.{cond-true, cond-false, eqb-true, false_from_ne_true, or_from, or_parts}
use Rattle.std.specs.Prelude.{map}
use Rattle.header_block.specs.declared.field_reader.TheConstants.{LONGEST}
use Rattle.header_block.specs.Lines.{text_lines, lf_parts, onto_first, without_last_cr, has_lf}
use Rattle.header_block.specs.Fields.{is_wsp, begins_wsp, header_lines, goes_on, onto_field, unfolded, fields, BeginsTooLong}
use Rattle.header_block.specs.Kept.{as_line, goes_with, field_then}
use Rattle.header_block.proofs.LineLemmas.{parts-front, lines-lf, lines-last, longer_part, has_lf-append}

onto_twice : (a b : List ℕ) (rest : List (List ℕ)) → onto_field a (onto_field b rest) ≡ onto_field (a ++ b) rest
onto_twice a b [] = refl
onto_twice a b (field ∷ rest) = ap (λ f. f ∷ rest) (sym (append_assoc a b field))

onto_cases : (t : Bool) (a b : List ℕ) (rest : List (List ℕ)) → onto_field a (cond t (onto_field b rest) (b ∷ rest)) ≡ cond t (onto_field (a ++ b) rest) ((a ++ b) ∷ rest)
onto_cases true a b rest = onto_twice a b rest
onto_cases false a b rest = refl

-- a line that begins with white space may be joined to the front of its field first
pub unfolded-on : (field line : List ℕ) (rest : List (List ℕ)) → begins_wsp line ≡ true → unfolded (field ∷ line ∷ rest) ≡ unfolded ((field ++ line) ∷ rest)
unfolded-on field line rest e =
    cond-true (begins_wsp line) (onto_field field (unfolded (line ∷ rest))) (field ∷ unfolded (line ∷ rest)) e
    ∙ onto_cases (goes_on rest) field line (unfolded rest)

-- where the next line doesn't go on, the field is whole
pub unfolded-whole : (field : List ℕ) (rest : List (List ℕ)) → goes_on rest ≡ false → unfolded (field ∷ rest) ≡ field ∷ unfolded rest
unfolded-whole field rest e = cond-false (goes_on rest) (onto_field field (unfolded rest)) (field ∷ unfolded rest) e

front_cases : (t : Bool) (line : List ℕ) (rest : List (List ℕ)) → (more : List ℕ) × (others : List (List ℕ)) × (cond t (onto_field line rest) (line ∷ rest) ≡ (line ++ more) ∷ others)
front_cases true line [] = ([], [], ap (λ l. l ∷ []) (sym (append-nil line)))
front_cases true line (field ∷ rest) = (field, rest, refl)
front_cases false line rest = ([], rest, ap (λ l. l ∷ rest) (sym (append-nil line)))

-- the first field begins with the first line
pub unfolded-front : (line : List ℕ) (rest : List (List ℕ)) → (more : List ℕ) × (others : List (List ℕ)) × (unfolded (line ∷ rest) ≡ (line ++ more) ∷ others)
unfolded-front line rest = front_cases (goes_on rest) line (unfolded rest)

-- a field's line without its end
pub cr_dropped : (field : List ℕ) → without_last_cr (field ++ 13 ∷ []) ≡ field
cr_dropped [] = refl
cr_dropped (b ∷ []) = refl
cr_dropped (b ∷ c ∷ field) = ap (λ l. b ∷ l) (cr_dropped (c ∷ field))

-- the lines of a field that has begun and of what follows it
pub lines-field : (b : ℕ) (field rest : List ℕ) → has_lf (b ∷ field) ≡ false → text_lines (as_line (b ∷ field) ++ rest) ≡ (b ∷ field) ∷ text_lines rest
lines-field b field rest none =
    ap text_lines (append_assoc (b ∷ field) (13 ∷ 10 ∷ []) rest ∙ sym (append_assoc (b ∷ field) (13 ∷ []) (10 ∷ rest)))
    ∙ lines-lf ((b ∷ field) ++ 13 ∷ []) rest (has_lf-append (b ∷ field) (13 ∷ []) none refl)
    ∙ ap (λ l. l ∷ text_lines rest) (cr_dropped (b ∷ field))

-- the fields of a field that has begun and of what follows it
pub fields-field : (b : ℕ) (field rest : List ℕ) → has_lf (b ∷ field) ≡ false → fields (as_line (b ∷ field) ++ rest) ≡ unfolded ((b ∷ field) ∷ header_lines (text_lines rest))
fields-field b field rest none = ap (λ ls. unfolded (header_lines ls)) (lines-field b field rest none)

-- white space is no CR
wsp_no_cr : (b : ℕ) → is_wsp b ≡ true → eqb b 13 ≡ false
wsp_no_cr b e = false_from_ne_true (eqb b 13) (λ t. let is : b ≡ 13 = eqb-true b 13 t in let no_wsp : is_wsp b ≡ false = ap is_wsp is in cc)

-- a line that begins with white space
pub record BlankLine (line : List ℕ) : Type 0 where
  pub first : ℕ
  pub later : List ℕ
  pub is : line ≡ first ∷ later
  pub blank : is_wsp first ≡ true

pub blank_kept : (c : ℕ) (line : List ℕ) → is_wsp c ≡ true → BlankLine (without_last_cr (c ∷ line))
blank_kept c [] e = record {
  first = c;
  later = [];
  is = cond-false (eqb c 13) [] (c ∷ []) (wsp_no_cr c e);
  blank = e;
}
blank_kept c (d ∷ line) e = record { first = c; later = without_last_cr (d ∷ line); is = refl; blank = e }

header_blank : (line : List ℕ) (rest : List (List ℕ)) → BlankLine line → header_lines (line ∷ rest) ≡ line ∷ header_lines rest
header_blank line rest h = ap (λ l. header_lines (l ∷ rest)) h.is ∙ ap (λ l. l ∷ header_lines rest) (sym h.is)

begins_white : (line : List ℕ) → BlankLine line → begins_wsp line ≡ true
begins_white line h = ap begins_wsp h.is ∙ h.blank

-- a line joined to a field that has begun
pub field_line : (b : ℕ) (field line : List ℕ) (rest : List (List ℕ)) → BlankLine line
    → unfolded ((b ∷ field) ∷ header_lines (line ∷ rest)) ≡ unfolded ((b ∷ (field ++ line)) ∷ header_lines rest)
field_line b field line rest h =
    ap (λ ls. unfolded ((b ∷ field) ∷ ls)) (header_blank line rest h)
    ∙ unfolded-on (b ∷ field) line (header_lines rest) (begins_white line h)

pub no_lf_left : (front rest : List ℕ) → has_lf (front ++ rest) ≡ false → has_lf front ≡ false
no_lf_left [] rest p = refl
no_lf_left (b ∷ front) rest p =
    let h = or_parts (eqb b 10) (has_lf (front ++ rest)) p in or_from (eqb b 10) (has_lf front) h.0 (no_lf_left front rest h.1)

pub no_lf_right : (front rest : List ℕ) → has_lf (front ++ rest) ≡ false → has_lf rest ≡ false
no_lf_right [] rest p = p
no_lf_right (b ∷ front) rest p = let h = or_parts (eqb b 10) (has_lf (front ++ rest)) p in no_lf_right front rest h.1

no_lf_cases : (t : Bool) (b : ℕ) → has_lf (b ∷ []) ≡ false → has_lf (cond t [] (b ∷ [])) ≡ false
no_lf_cases true b none = refl
no_lf_cases false b none = none

pub no_lf-without : (line : List ℕ) → has_lf line ≡ false → has_lf (without_last_cr line) ≡ false
no_lf-without [] none = refl
no_lf-without (b ∷ []) none = no_lf_cases (eqb b 13) b none
no_lf-without (b ∷ c ∷ line) none =
    let h = or_parts (eqb b 10) (has_lf (c ∷ line)) none in or_from (eqb b 10) (has_lf (without_last_cr (c ∷ line))) h.0 (no_lf-without (c ∷ line) h.1)

-- the fields of a field that is whole but for lines that go on, and of the text behind it
abbrev pub begun : List ℕ → List ℕ → List (List ℕ)
begun [] text = []
begun (b ∷ field) text = unfolded ((b ∷ field) ∷ header_lines (text_lines text))

header_first : (line text : List ℕ) → unfolded (header_lines (line ∷ text_lines text)) ≡ begun line text
header_first [] text = refl
header_first (b ∷ line) text = refl

-- a line that an LF ends
pub line_ended : (field line text : List ℕ) → goes_with field line ≡ true → has_lf field ≡ false → has_lf line ≡ false → (0 < length field → 0 < length line)
    → fields (as_line field ++ (line ++ 10 ∷ text)) ≡ begun (field ++ without_last_cr line) text
line_ended [] line text goes no_field no_line some =
    ap (λ ls. unfolded (header_lines ls)) (lines-lf line text no_line) ∙ header_first (without_last_cr line) text
line_ended (b ∷ field) [] text goes no_field no_line some = absurd (lt_irrefl 0 (some (omega arith)))
line_ended (b ∷ field) (c ∷ line) text goes no_field no_line some =
    fields-field b field ((c ∷ line) ++ 10 ∷ text) no_field
    ∙ ap (λ ls. unfolded ((b ∷ field) ∷ header_lines ls)) (lines-lf (c ∷ line) text no_line)
    ∙ field_line b field (without_last_cr (c ∷ line)) (text_lines text) (blank_kept c line goes)

-- and the text behind it
pub begun_field : (field text : List ℕ) → has_lf field ≡ false → 0 < length field → begun field text ≡ fields (as_line field ++ text)
begun_field [] text none some = absurd (lt_irrefl 0 some)
begun_field (b ∷ field) text none some = sym (fields-field b field text none)

single : (line : List ℕ) → unfolded (header_lines (line ∷ [])) ≡ field_then line []
single [] = refl
single (b ∷ line) = refl

last_first : (line : List ℕ) → has_lf line ≡ false → fields line ≡ field_then (without_last_cr line) []
last_first [] none = refl
last_first (c ∷ line) none = ap (λ ls. unfolded (header_lines ls)) (lines-last (c ∷ line) (omega arith) none) ∙ single (without_last_cr (c ∷ line))

-- the last line, which no LF ends
pub line_last : (field line : List ℕ) → goes_with field line ≡ true → has_lf field ≡ false → has_lf line ≡ false → fields (as_line field ++ (line ++ [])) ≡ field_then (field ++ without_last_cr line) []
line_last [] line goes no_field no_line = ap fields (append-nil line) ∙ last_first line no_line
line_last (b ∷ field) [] goes no_field no_line = fields-field b field [] no_field ∙ ap (λ f. (b ∷ f) ∷ []) (sym (append-nil field))
line_last (b ∷ field) (c ∷ line) goes no_field no_line =
    fields-field b field ((c ∷ line) ++ []) no_field
    ∙ ap (λ ls. unfolded ((b ∷ field) ∷ header_lines ls)) (ap text_lines (append-nil (c ∷ line)) ∙ lines-last (c ∷ line) (omega arith) no_line)
    ∙ field_line b field (without_last_cr (c ∷ line)) [] (blank_kept c line goes)

-- a field that is whole is given as the last
pub field_last : (field : List ℕ) → has_lf field ≡ false → fields (as_line field ++ []) ≡ field_then field []
field_last [] none = refl
field_last (b ∷ field) none = fields-field b field [] none

short_line : (t : Bool) (w : ℕ) (rest : List (List ℕ)) → is_wsp w ≡ false → goes_on (header_lines (cond t [] (w ∷ []) ∷ rest)) ≡ false
short_line true w rest e = refl
short_line false w rest e = e

part_goes : (w : ℕ) (part : List ℕ) (rest : List (List ℕ)) → is_wsp w ≡ false → goes_on (header_lines (without_last_cr (w ∷ part) ∷ rest)) ≡ false
part_goes w [] rest e = short_line (eqb w 13) w rest e
part_goes w (c ∷ part) rest e = e

parts_go : (t : Bool) (w : ℕ) (parts : List (List ℕ)) → is_wsp w ≡ false → goes_on (header_lines (map without_last_cr (cond t ([] ∷ parts) (onto_first w parts)))) ≡ false
parts_go true w parts e = refl
parts_go false w [] e = part_goes w [] [] e
parts_go false w (part ∷ parts) e = part_goes w part (map without_last_cr parts) e

-- a field is whole where the next line doesn't begin with white space
pub field_whole : (field waiting text : List ℕ) → has_lf field ≡ false → 0 < length field → 0 < length waiting → begins_wsp waiting ≡ false
    → fields (as_line field ++ (waiting ++ text)) ≡ field_then field (fields (waiting ++ text))
field_whole [] waiting text none some more e = absurd (lt_irrefl 0 some)
field_whole (b ∷ field) [] text none some more e = absurd (lt_irrefl 0 more)
field_whole (b ∷ field) (w ∷ waiting) text none some more e =
    fields-field b field (w ∷ (waiting ++ text)) none
    ∙ unfolded-whole (b ∷ field) (header_lines (text_lines (w ∷ (waiting ++ text)))) (parts_go (eqb w 10) w (lf_parts (waiting ++ text)) e)

long_field : (field : List ℕ) (rest : List (List ℕ)) → LONGEST < length field → BeginsTooLong (unfolded (field ∷ rest))
long_field field rest long =
    let front = unfolded-front field rest in
    subst BeginsTooLong (sym front.2) (omega (arith, long, length-append field front.0))

long_first : (line : List ℕ) (rest : List (List ℕ)) → LONGEST < length line → BeginsTooLong (unfolded (header_lines (line ∷ rest)))
long_first [] rest long = absurd (omega arith)
long_first (b ∷ line) rest long = long_field (b ∷ line) (header_lines rest) long

-- a field is too long as soon as its lines so far are, whatever follows
pub field_too_long : (field line text : List ℕ) → goes_with field line ≡ true → has_lf field ≡ false → has_lf line ≡ false → length field ≤ LONGEST
    → LONGEST < length field + length (without_last_cr line) → BeginsTooLong (fields (as_line field ++ (line ++ text)))
field_too_long [] [] text goes no_field no_line few long = absurd (omega arith)
field_too_long [] (c ∷ line) text goes no_field no_line few long =
    let front = parts-front c line text no_line in
    subst (λ (ps : List (List ℕ)). BeginsTooLong (unfolded (header_lines (map without_last_cr ps)))) (sym front.2)
    (long_first (without_last_cr (c ∷ (line ++ front.0))) (map without_last_cr front.1) (omega (arith, long, longer_part (c ∷ line) front.0)))
field_too_long (b ∷ field) [] text goes no_field no_line few long = absurd (omega arith)
field_too_long (b ∷ field) (c ∷ line) text goes no_field no_line few long =
    let front = parts-front c line text no_line in
    let part : List ℕ = without_last_cr (c ∷ (line ++ front.0)) in
    subst BeginsTooLong
    (sym (fields-field b field ((c ∷ line) ++ text) no_field
    ∙ ap (λ (ps : List (List ℕ)). unfolded ((b ∷ field) ∷ header_lines (map without_last_cr ps))) front.2
    ∙ field_line b field (without_last_cr (c ∷ (line ++ front.0))) (map without_last_cr front.1) (blank_kept c (line ++ front.0) goes)))
    (long_field (b ∷ (field ++ without_last_cr (c ∷ (line ++ front.0)))) (header_lines (map without_last_cr front.1))
    (omega (arith, long, longer_part (c ∷ line) front.0, length-append field (without_last_cr (c ∷ (line ++ front.0))))))

-- where nothing waits, the next field fits as long as its lines so far do
pub fits_so_far : (field line : List ℕ) → goes_with field line ≡ true → has_lf field ≡ false → has_lf line ≡ false → length field + length (without_last_cr line) ≤ LONGEST
    → BeginsTooLong (fields (as_line field ++ (line ++ []))) → ⊥
fits_so_far field line goes no_field no_line few long =
    short_enough (field ++ without_last_cr line) (omega (arith, few, length-append field (without_last_cr line))) (subst BeginsTooLong (line_last field line goes no_field no_line) long)
  where
    short_enough : (f : List ℕ) → length f ≤ LONGEST → BeginsTooLong (field_then f []) → ⊥
    short_enough [] few h = h
    short_enough (b ∷ f) few h = omega arith

-- the front of a line that goes on
pub goes_front : (field line waiting : List ℕ) (n : ℕ) → goes_with field (line ++ waiting) ≡ true → goes_with field (line ++ take n waiting) ≡ true
goes_front [] line waiting n e = refl
goes_front (b ∷ field) (c ∷ line) waiting n e = e
goes_front (b ∷ field) [] [] n e = ap (λ l. goes_with (b ∷ field) l) (take-nil n)
goes_front (b ∷ field) [] (w ∷ waiting) zero e = refl
goes_front (b ∷ field) [] (w ∷ waiting) (suc n) e = e

-- a line that goes on isn't empty
pub goes_some : (field line waiting rest : List ℕ) (n : ℕ) → goes_with field (line ++ waiting) ≡ true → drop n waiting ≡ 10 ∷ rest → 0 < length field → 0 < length (line ++ take n waiting)
goes_some [] line waiting rest n e lf some = absurd (lt_irrefl 0 some)
goes_some (b ∷ field) (c ∷ line) waiting rest n e lf some = omega arith
goes_some (b ∷ field) [] [] rest n e lf some = absurd (omega (arith, ap length lf, length-drop {A = ℕ} n []))
goes_some (b ∷ field) [] (w ∷ waiting) rest zero e lf some =
    let no_wsp : is_wsp w ≡ false = ap is_wsp (ap (λ (l : List ℕ). get_or l 0 0) lf) in
    let differ : true ≡ false = sym e ∙ no_wsp in
    absurd (cc)
goes_some (b ∷ field) [] (w ∷ waiting) rest (suc n) e lf some = omega arith

pub ends_goes : (field : List ℕ) → goes_with field [] ≡ true
ends_goes [] = refl
ends_goes (b ∷ field) = refl
