-- What stands at the front of a text, anywhere on a line, and the value of what follows.
use Rattle.std.proofs.Common.{◌≡◌, ℕ, ◌<◌, ◌≤◌, true, false, not, ◌||◌, ◌&&◌, eqb, List, [], ◌∷◌, ◌++◌, length, get_or, take, drop, refl, ap, sym, ◌∙◌, arith}
use Rattle.std.specs.List.{list_all}
use Rattle.std.specs.Char.{is_digit}
use Rattle.std.proofs.lemmas.Bool.{false≢true, and_parts, agree_below_at, leb-true, eqb-true}
use Rattle.std.proofs.lemmas.Bool.Decides.{nat_tests}
use Rattle.std.proofs.lemmas.List.{append_assoc, take-append-drop}
use Rattle.qp.specs.Text.{is_text_octet, is_line_padding, kept, lines}
use Rattle.qp.specs.Line.{parts, values, ends_soft, escape_value}
use Rattle.qp.specs.Items.{is_blank, ends_blank, begins_break, may_stand_within}
use Rattle.qp.specs.Robust.{robust}
use Rattle.qp.specs.Digits.{begins_soft_break}
use Rattle.qp.proofs.Reading.{kept_yes}
use Rattle.qp.proofs.Stripped.{stripped, strip_onto, stripped-other, stripped-feed}
use Rattle.qp.proofs.Readback.{value_of, inked, value-onto, value-escape}
use Rattle.qp.proofs.Scanning.{Ink, ink, is_ink, stripped-some, trim-ink, strip-escape, some-lines, inked-within}
use Rattle.qp.proofs.Inverse.{joined-value_of}

robust-stripped : (text : List ℕ) → robust text ≡ value_of (stripped (kept text))
unfolding robust stripped
robust-stripped text = joined-value_of (lines (kept text))

-- the first line of a text has something that stays at its end
abbrev pub Begun : List ℕ → Type 0
Begun text = inked (stripped (kept text)) ≡ true

-- `b` stands for itself before `text`
abbrev Adds : ℕ → List ℕ → Type 0
Adds b text = (robust (b ∷ text) ≡ b ∷ robust text) × Begun (b ∷ text)

plain-text : (b : ℕ) → may_stand_within b ≡ true → is_text_octet b ≡ true
plain-text b h = grind (arith, nat_tests)

plain-feed : (b : ℕ) → may_stand_within b ≡ true → eqb b 10 ≡ false
plain-feed b h = grind (arith, nat_tests)

plain-equals : (b : ℕ) → may_stand_within b ≡ true → eqb b 61 ≡ false
plain-equals b h = grind (arith, nat_tests)

plain-padding : (b : ℕ) → may_stand_within b ≡ true → is_blank b ≡ false → is_line_padding b ≡ false
plain-padding b h i = grind (arith, nat_tests)

value-ink : (b : ℕ) (ss : List (List ℕ)) → 0 < length ss → eqb b 61 ≡ false → is_line_padding b ≡ false → value_of (strip_onto b ss) ≡ b ∷ value_of ss
value-ink b [] n h p = absurd (omega (arith, n))
value-ink b (s ∷ rest) n h p = ap (λ t. value_of (t ∷ rest)) (trim-ink b s p) ∙ value-onto b s rest h

value-within : (b : ℕ) (ss : List (List ℕ)) → inked ss ≡ true → eqb b 61 ≡ false → value_of (strip_onto b ss) ≡ b ∷ value_of ss
value-within b [] i h = absurd (false≢true i)
value-within b ([] ∷ rest) i h = absurd (false≢true i)
value-within b ((x ∷ s) ∷ rest) i h = value-onto b (x ∷ s) rest h

inked-strip : (b : ℕ) (ss : List (List ℕ)) → is_line_padding b ≡ false → inked (strip_onto b ss) ≡ true
inked-strip b [] p = ap (λ s. inked (s ∷ [])) (trim-ink b [] p)
inked-strip b (s ∷ rest) p = ap (λ s. inked (s ∷ rest)) (trim-ink b s p)

put-on : (b : ℕ) (text : List ℕ) → may_stand_within b ≡ true → stripped (kept (b ∷ text)) ≡ strip_onto b (stripped (kept text))
put-on b text h = ap stripped (kept_yes b text (plain-text b h)) ∙ stripped-other b (kept text) (plain-feed b h)

adds-ink : (b : ℕ) (text : List ℕ) → may_stand_within b ≡ true → is_blank b ≡ false → Adds b text
adds-ink b text h i = (
  robust-stripped (b ∷ text) ∙ ap value_of (put-on b text h) ∙ value-ink b (stripped (kept text)) (stripped-some (kept text)) (plain-equals b h) (plain-padding b h i) ∙ ap (λ v. b ∷ v) (sym (robust-stripped text)),
  ap inked (put-on b text h) ∙ inked-strip b (stripped (kept text)) (plain-padding b h i),
)

adds-within : (b : ℕ) (text : List ℕ) → may_stand_within b ≡ true → Begun text → Adds b text
adds-within b text h i = (
  robust-stripped (b ∷ text) ∙ ap value_of (put-on b text h) ∙ value-within b (stripped (kept text)) i (plain-equals b h) ∙ ap (λ v. b ∷ v) (sym (robust-stripped text)),
  ap (λ k. inked (stripped k)) (kept_yes b text (plain-text b h)) ∙ inked-within b (kept text) (plain-feed b h) i,
)

-- a run of octets that stand for themselves, before what begins with something that stays
pub robust-before : (front rest : List ℕ) → list_all may_stand_within front ≡ true → Begun rest → (robust (front ++ rest) ≡ front ++ robust rest) × Begun (front ++ rest)
robust-before [] rest h i = (refl, i)
robust-before (b ∷ front) rest h i =
    let here = and_parts (may_stand_within b) (list_all may_stand_within front) h in
    let later = robust-before front rest here.1 i in
    let now = adds-within b (front ++ rest) here.0 later.1 in
    (now.0 ∙ ap (λ v. b ∷ v) later.0, now.1)

-- a run that ends in no tab or space
robust-ended : (b : ℕ) (front rest : List ℕ) → list_all may_stand_within (b ∷ front) ≡ true → ends_blank (b ∷ front) ≡ false
    → (robust (b ∷ front ++ rest) ≡ b ∷ front ++ robust rest) × Begun (b ∷ front ++ rest)
robust-ended b [] rest h e = adds-ink b rest (and_parts (may_stand_within b) true h).0 e
robust-ended b (c ∷ front) rest h e =
    let here = and_parts (may_stand_within b) (list_all may_stand_within (c ∷ front)) h in
    let later = robust-ended c front rest here.1 e in
    let now = adds-within b (c ∷ front ++ rest) here.0 later.1 in
    (now.0 ∙ ap (λ v. b ∷ v) later.0, now.1)

pub robust-run : (front rest : List ℕ) → list_all may_stand_within front ≡ true → ends_blank front ≡ false → robust (front ++ rest) ≡ front ++ robust rest
robust-run [] rest h e = refl
robust-run (b ∷ front) rest h e = (robust-ended b front rest h e).0

-- an `=`
begun-equals : (text : List ℕ) → Begun (61 ∷ text)
begun-equals text = ap (λ k. inked (stripped k)) (kept_yes 61 text refl) ∙ ap inked (stripped-other 61 (kept text) refl) ∙ inked-strip 61 (stripped (kept text)) refl

pub begun-at : (text : List ℕ) → 0 < length text → eqb (get_or text 0 0) 61 ≡ true → Begun text
begun-at [] n h = absurd (omega (arith, n))
begun-at (b ∷ text) n h = ap (λ x. inked (stripped (kept (x ∷ text)))) (eqb-true b 61 h) ∙ begun-equals text

-- an escape
pub digit-ink : (u : ℕ) → u < 256 → is_digit u 16 ≡ true → Ink u
digit-ink u below h =
    let all : (not (is_digit u 16) || is_ink u) ≡ true = agree_below_at (λ d. not (is_digit d 16) || is_ink d) (λ _. true) 256 u refl below in
    let inside : is_ink u ≡ true = sym (ap (λ t. not t || is_ink u) h) ∙ all in
    let bounds = and_parts _ _ inside in
    ink u (leb-true 33 u bounds.0) (leb-true u 126 bounds.1)

robust-escape : (u v octet : ℕ) (text : List ℕ) → Ink u → Ink v → escape_value u v ≡ octet ∷ [] → robust (61 ∷ u ∷ v ∷ text) ≡ octet ∷ robust text
robust-escape u v octet text a b says =
    let line = strip-escape u v (kept text) a b (stripped (kept text)) refl (stripped-some (kept text)) in
    let all : kept (61 ∷ u ∷ v ∷ text) ≡ 61 ∷ u ∷ v ∷ kept text = kept_yes 61 (u ∷ v ∷ text) refl ∙ ap (λ k. 61 ∷ k) (kept_yes u (v ∷ text) a.text ∙ ap (λ k. u ∷ k) (kept_yes v text b.text)) in
    robust-stripped (61 ∷ u ∷ v ∷ text)
    ∙ ap (λ k. value_of (stripped k)) all
    ∙ ap value_of line.3
    ∙ value-escape u v octet line.0 line.1 says
    ∙ ap (λ v. octet ∷ v) (sym (robust-stripped text ∙ ap value_of line.2))

pub robust-escape_at : (text : List ℕ) (octet : ℕ) → 3 ≤ length text → eqb (get_or text 0 0) 61 ≡ true → Ink (get_or text 1 0) → Ink (get_or text 2 0) → escape_value (get_or text 1 0) (get_or text 2 0) ≡ octet ∷ []
    → robust text ≡ octet ∷ robust (drop 3 text)
robust-escape_at [] octet n h a b s = absurd (omega (arith, n))
robust-escape_at (e ∷ []) octet n h a b s = absurd (omega (arith, n))
robust-escape_at (e ∷ u ∷ []) octet n h a b s = absurd (omega (arith, n))
robust-escape_at (e ∷ u ∷ v ∷ text) octet n h a b s = ap (λ x. robust (x ∷ u ∷ v ∷ text)) (eqb-true e 61 h) ∙ robust-escape u v octet text a b s

-- line breaks
kept-break : (text : List ℕ) → kept (13 ∷ 10 ∷ text) ≡ 13 ∷ 10 ∷ kept text
unfolding kept
kept-break text = refl

stripped-break : (text : List ℕ) → stripped (13 ∷ 10 ∷ text) ≡ [] ∷ stripped text
stripped-break text = stripped-other 13 (10 ∷ text) refl ∙ ap (strip_onto 13) (stripped-feed text)

value-hard : (s : List ℕ) (rest : List (List ℕ)) → value_of ([] ∷ s ∷ rest) ≡ 13 ∷ 10 ∷ value_of (s ∷ rest)
unfolding value_of values parts ends_soft
value-hard s rest = refl

value-soft : (s : List ℕ) (rest : List (List ℕ)) → value_of ((61 ∷ []) ∷ s ∷ rest) ≡ value_of (s ∷ rest)
unfolding value_of values parts ends_soft
value-soft s rest = refl

robust-hard : (text : List ℕ) → robust (13 ∷ 10 ∷ text) ≡ 13 ∷ 10 ∷ robust text
robust-hard text =
    let some = some-lines (stripped (kept text)) (stripped-some (kept text)) in
    robust-stripped (13 ∷ 10 ∷ text)
    ∙ ap (λ k. value_of (stripped k)) (kept-break text)
    ∙ ap value_of (stripped-break (kept text) ∙ ap (λ ss. [] ∷ ss) some.2)
    ∙ value-hard some.0 some.1
    ∙ ap (λ v. 13 ∷ 10 ∷ v) (sym (robust-stripped text ∙ ap value_of some.2))

pub robust-hard_at : (text : List ℕ) → begins_break text ≡ true → robust text ≡ 13 ∷ 10 ∷ robust (drop 2 text)
robust-hard_at [] h = absurd (false≢true h)
robust-hard_at (b ∷ []) h = absurd (false≢true h)
robust-hard_at (b ∷ c ∷ text) h =
    let both = and_parts (eqb b 13) (eqb c 10) h in
    ap (λ x. robust (x ∷ c ∷ text)) (eqb-true b 13 both.0) ∙ ap (λ x. robust (13 ∷ x ∷ text)) (eqb-true c 10 both.1) ∙ robust-hard text

robust-soft : (text : List ℕ) → robust (61 ∷ 13 ∷ 10 ∷ text) ≡ robust text
robust-soft text =
    let some = some-lines (stripped (kept text)) (stripped-some (kept text)) in
    robust-stripped (61 ∷ 13 ∷ 10 ∷ text)
    ∙ ap (λ k. value_of (stripped k)) (kept_yes 61 (13 ∷ 10 ∷ text) refl ∙ ap (λ k. 61 ∷ k) (kept-break text))
    ∙ ap value_of (stripped-other 61 (13 ∷ 10 ∷ kept text) refl ∙ ap (strip_onto 61) (stripped-break (kept text) ∙ ap (λ ss. [] ∷ ss) some.2))
    ∙ value-soft some.0 some.1
    ∙ sym (robust-stripped text ∙ ap value_of some.2)

-- a soft line break begins with an `=`, and stands for nothing
pub begun-soft : (text : List ℕ) → begins_soft_break text ≡ true → Begun text
begun-soft [] h = absurd (false≢true h)
begun-soft (b ∷ []) h = absurd (false≢true h)
begun-soft (b ∷ c ∷ []) h = absurd (false≢true h)
begun-soft (b ∷ c ∷ d ∷ text) h = begun-at (b ∷ c ∷ d ∷ text) (omega arith) (and_parts (eqb b 61) (eqb c 13 && eqb d 10) h).0

pub robust-soft_at : (text : List ℕ) → begins_soft_break text ≡ true → robust text ≡ robust (drop 3 text)
robust-soft_at [] h = absurd (false≢true h)
robust-soft_at (b ∷ []) h = absurd (false≢true h)
robust-soft_at (b ∷ c ∷ []) h = absurd (false≢true h)
robust-soft_at (b ∷ c ∷ d ∷ text) h =
    let all = and_parts (eqb b 61) (eqb c 13 && eqb d 10) h in
    let both = and_parts (eqb c 13) (eqb d 10) all.1 in
    ap (λ x. robust (x ∷ c ∷ d ∷ text)) (eqb-true b 61 all.0) ∙ ap (λ x. robust (61 ∷ x ∷ d ∷ text)) (eqb-true c 13 both.0) ∙ ap (λ x. robust (61 ∷ 13 ∷ x ∷ text)) (eqb-true d 10 both.1) ∙ robust-soft text

-- One turn of a reader: `out` is what it has, `text` what is left, `run` octets of which stand for themselves.
pub turn-before : (out new text rest : List ℕ) (run : ℕ) → list_all may_stand_within (take run text) ≡ true → Begun (drop run text) → new ++ robust rest ≡ (out ++ take run text) ++ robust (drop run text)
    → new ++ robust rest ≡ out ++ robust text
turn-before out new text rest run h i e =
    e
    ∙ append_assoc out (take run text) (robust (drop run text))
    ∙ ap (λ v. out ++ v) (sym (robust-before (take run text) (drop run text) h i).0 ∙ ap robust (take-append-drop run text))

pub turn-ended : (out new text rest : List ℕ) (run : ℕ) → list_all may_stand_within (take run text) ≡ true → ends_blank (take run text) ≡ false → new ++ robust rest ≡ (out ++ take run text) ++ robust (drop run text)
    → new ++ robust rest ≡ out ++ robust text
turn-ended out new text rest run h b e =
    e
    ∙ append_assoc out (take run text) (robust (drop run text))
    ∙ ap (λ v. out ++ v) (sym (robust-run (take run text) (drop run text) h b) ∙ ap robust (take-append-drop run text))
