-- What is read of a text that has no fault, one item after another.
use Rattle.std.proofs.Common.{◌≡◌, ℕ, ◌+◌, ◌*◌, ◌/◌, ◌%◌, ◌<◌, ◌≤◌, Bool, true, false, not, ◌&&◌, eqb, nat_le, None, List, [], ◌∷◌, length, refl, ap, sym, ◌∙◌, subst, arith}
use Rattle.std.specs.List.{list_any}
use Rattle.std.specs.Char.{digit_value, is_digit}
use Rattle.std.proofs.lemmas.Bool.{false≢true, agree_below_at, and_parts, eqb-true, not-true, ne_eqb, leb-true}
use Rattle.std.proofs.lemmas.Bool.Decides.{nat_tests}
use Rattle.std.proofs.lemmas.List.{length-map}
use Rattle.std.proofs.lemmas.List.Splits.{length-slice_split}
use Rattle.qp.specs.Text.{is_text_octet, is_line_padding, lines, trimmed}
use Rattle.qp.specs.Line.{escape, escape_value}
use Rattle.qp.specs.Strict.{part_fault, pairs_only, is_lowercase_digit}
use Rattle.qp.specs.Items.{hex_digit, is_blank, is_graphic}
use Rattle.qp.proofs.Stripped.{stripped, strip_onto, trim_onto, stripped-other, stripped-feed, stripped-none}
use Rattle.qp.proofs.Readback.{Reads, inked, reads-literal, reads-escape, reads-none, reads-hard, reads-soft}

-- 33 to 126
abbrev pub is_ink : ℕ → Bool
is_ink b = nat_le 33 b && nat_le b 126

pub record Ink (b : ℕ) : Type 0 where
  pub text : is_text_octet b ≡ true
  pub padding : is_line_padding b ≡ false
  pub feed : eqb b 10 ≡ false
  pub return : eqb b 13 ≡ false

pub ink : (b : ℕ) → 33 ≤ b → b ≤ 126 → Ink b
ink b low high = record {
  text = grind (arith, nat_tests);
  padding = grind (arith, nat_tests);
  feed = ne_eqb b 10 (λ e. absurd (omega (arith, low)));
  return = ne_eqb b 13 (λ e. absurd (omega (arith, low)));
}

pub stripped-some : (text : List ℕ) → 0 < length (stripped text)
unfolding stripped lines
stripped-some text = omega (arith, length-map (lines text) trimmed, length-slice_split (λ b. eqb b 10) text)

-- an octet put before trimmed lines stays there
pub trim-ink : (b : ℕ) (s : List ℕ) → is_line_padding b ≡ false → trim_onto b s ≡ b ∷ s
trim-ink b [] h = rw h refl
trim-ink b (x ∷ s) h = refl

reads-ink : (limit used b : ℕ) (ss : List (List ℕ)) (v : List ℕ) → 0 < length ss → eqb b 61 ≡ false → is_line_padding b ≡ false
    → Reads limit (used + 1) ss v → Reads limit used (strip_onto b ss) (b ∷ v)
reads-ink limit used b [] v n h p r = absurd (omega (arith, n))
reads-ink limit used b (s ∷ rest) v n h p r =
    subst (λ t. Reads limit used (t ∷ rest) (b ∷ v)) (sym (trim-ink b s p)) (reads-literal limit used b s rest v h r)

reads-within : (limit used b : ℕ) (ss : List (List ℕ)) (v : List ℕ) → inked ss ≡ true → eqb b 61 ≡ false
    → Reads limit (used + 1) ss v → Reads limit used (strip_onto b ss) (b ∷ v)
reads-within limit used b [] v i h r = absurd (false≢true i)
reads-within limit used b ([] ∷ rest) v i h r = absurd (false≢true i)
reads-within limit used b ((x ∷ s) ∷ rest) v i h r = reads-literal limit used b (x ∷ s) rest v h r

-- the text has no invalid octet, and is read
pub record Scans (limit used : ℕ) (text v : List ℕ) : Type 0 where
  pub octets : list_any (λ b. not (is_text_octet b)) text ≡ false
  pub pairs : pairs_only text ≡ true
  pub reads : Reads limit used (stripped text) v

octets-more : (b : ℕ) (text : List ℕ) → is_text_octet b ≡ true → list_any (λ b. not (is_text_octet b)) text ≡ false → list_any (λ b. not (is_text_octet b)) (b ∷ text) ≡ false
octets-more b text h e = rw h e

pairs-more : (b : ℕ) (text : List ℕ) → eqb b 13 ≡ false → eqb b 10 ≡ false → pairs_only text ≡ true → pairs_only (b ∷ text) ≡ true
unfolding pairs_only
pairs-more b [] h f e = rw (h, f) refl
pairs-more b (c ∷ rest) h f e = rw (h, f) e

pub scans-none : (limit used : ℕ) → used ≤ limit → Scans limit used [] []
unfolding pairs_only
scans-none limit used h = record { octets = refl; pairs = refl; reads = subst (λ ss. Reads limit used ss []) (sym stripped-none) (reads-none limit used h) }

pub scans-graphic : (limit used b : ℕ) (text v : List ℕ) → is_graphic b ≡ true → Scans limit (used + 1) text v → Scans limit used (b ∷ text) (b ∷ v)
scans-graphic limit used b text v h r =
    let parts = and_parts (is_ink b) (not (eqb b 61)) h in
    let bounds = and_parts (nat_le 33 b) (nat_le b 126) parts.0 in
    let here : Ink b = ink b (leb-true 33 b bounds.0) (leb-true b 126 bounds.1) in
    record {
      octets = octets-more b text here.text r.octets;
      pairs = pairs-more b text here.return here.feed r.pairs;
      reads = subst (λ ss. Reads limit used ss (b ∷ v)) (sym (stripped-other b text here.feed))
          (reads-ink limit used b (stripped text) v (stripped-some text) (not-true (eqb b 61) parts.1) here.padding r.reads);
    }

blank-text : (b : ℕ) → is_blank b ≡ true → (is_text_octet b ≡ true) × (eqb b 10 ≡ false) × (eqb b 13 ≡ false) × (eqb b 61 ≡ false)
blank-text b h = (grind (arith, nat_tests), grind (arith, nat_tests), grind (arith, nat_tests), grind (arith, nat_tests))

pub scans-blank : (limit used b : ℕ) (text v : List ℕ) → is_blank b ≡ true → inked (stripped text) ≡ true → Scans limit (used + 1) text v → Scans limit used (b ∷ text) (b ∷ v)
scans-blank limit used b text v h i r =
    let here = blank-text b h in
    record {
      octets = octets-more b text here.0 r.octets;
      pairs = pairs-more b text here.2 here.1 r.pairs;
      reads = subst (λ ss. Reads limit used ss (b ∷ v)) (sym (stripped-other b text here.1))
          (reads-within limit used b (stripped text) v i here.3 r.reads);
    }

-- an upper-case digit
pub record Digit (value u : ℕ) : Type 0 where
  pub is_one : is_digit u 16 ≡ true
  pub says : digit_value u ≡ value
  pub upper : is_lowercase_digit u ≡ false
  pub low : 33 ≤ u
  pub high : u ≤ 126

pub digit : (value : ℕ) → value < 16 → Digit value (hex_digit value)
digit value h =
    let all = agree_below_at (λ d. is_digit (hex_digit d) 16 && (eqb (digit_value (hex_digit d)) d && (not (is_lowercase_digit (hex_digit d)) && is_ink (hex_digit d)))) (λ _. true) 16 value refl h in
    let one = and_parts (is_digit (hex_digit value) 16) (eqb (digit_value (hex_digit value)) value && (not (is_lowercase_digit (hex_digit value)) && is_ink (hex_digit value))) all in
    let two = and_parts (eqb (digit_value (hex_digit value)) value) (not (is_lowercase_digit (hex_digit value)) && is_ink (hex_digit value)) one.1 in
    let three = and_parts (not (is_lowercase_digit (hex_digit value))) (is_ink (hex_digit value)) two.1 in
    let four = and_parts (nat_le 33 (hex_digit value)) (nat_le (hex_digit value) 126) three.1 in
    record {
      is_one = one.0;
      says = eqb-true (digit_value (hex_digit value)) value two.0;
      upper = not-true (is_lowercase_digit (hex_digit value)) three.0;
      low = leb-true 33 (hex_digit value) four.0;
      high = leb-true (hex_digit value) 126 four.1;
    }

escape-says : (x y u w : ℕ) → Digit x u → Digit y w → escape_value u w ≡ (x * 16 + y) ∷ []
escape-says x y u w d e = rw (d.is_one, e.is_one, d.says, e.says) refl

escape-right : (x y u w : ℕ) → Digit x u → Digit y w → part_fault (escape u w) ≡ None
escape-right x y u w d e = rw (d.is_one, e.is_one, d.upper, e.upper) refl

pub strip-escape : (u w : ℕ) (text : List ℕ) → Ink u → Ink w → (ss : List (List ℕ)) → stripped text ≡ ss → 0 < length ss → (s : List ℕ) × (rest : List (List ℕ)) × (ss ≡ s ∷ rest) × (stripped (61 ∷ u ∷ w ∷ text) ≡ (61 ∷ u ∷ w ∷ s) ∷ rest)
strip-escape u w text a b [] e n = absurd (omega (arith, n))
strip-escape u w text a b (s ∷ rest) e n = (
  s,
  rest,
  refl,
  stripped-other 61 (u ∷ w ∷ text) refl
      ∙ ap (strip_onto 61) (stripped-other u (w ∷ text) a.feed ∙ ap (strip_onto u) (stripped-other w text b.feed ∙ ap (strip_onto w) e))
      ∙ ap (λ t. strip_onto 61 (strip_onto u (t ∷ rest))) (trim-ink w s b.padding)
      ∙ refl,
)

reads-digits : (limit used u w b : ℕ) (text v : List ℕ) → Ink u → Ink w → escape_value u w ≡ b ∷ [] → part_fault (escape u w) ≡ None
    → Reads limit (used + 3) (stripped text) v → Reads limit used (stripped (61 ∷ u ∷ w ∷ text)) (b ∷ v)
reads-digits limit used u w b text v a c says right r =
    let lines = strip-escape u w text a c (stripped text) refl (stripped-some text) in
    subst (λ ss. Reads limit used ss (b ∷ v)) (sym lines.3)
    (reads-escape limit used u w b lines.0 lines.1 v says right (subst (λ ss. Reads limit (used + 3) ss v) lines.2 r))

scans-digits : (limit used x y u w : ℕ) (text v : List ℕ) → Digit x u → Digit y w → Scans limit (used + 3) text v → Scans limit used (61 ∷ u ∷ w ∷ text) ((x * 16 + y) ∷ v)
scans-digits limit used x y u w text v high low r =
    let a : Ink u = ink u high.low high.high in
    let c : Ink w = ink w low.low low.high in
    let equals : Ink 61 = ink 61 (omega arith) (omega arith) in
    record {
      octets = octets-more 61 (u ∷ w ∷ text) equals.text (octets-more u (w ∷ text) a.text (octets-more w text c.text r.octets));
      pairs = pairs-more 61 (u ∷ w ∷ text) equals.return equals.feed (pairs-more u (w ∷ text) a.return a.feed (pairs-more w text c.return c.feed r.pairs));
      reads = reads-digits limit used u w (x * 16 + y) text v a c (escape-says x y u w high low) (escape-right x y u w high low) r.reads;
    }

pub scans-escape : (limit used b : ℕ) (text v : List ℕ) → b < 256 → Scans limit (used + 3) text v → Scans limit used (61 ∷ hex_digit (b / 16) ∷ hex_digit (b % 16) ∷ text) (b ∷ v)
scans-escape limit used b text v h r =
    let whole : b / 16 * 16 + b % 16 ≡ b = omega arith in
    subst (λ n. Scans limit used (61 ∷ hex_digit (b / 16) ∷ hex_digit (b % 16) ∷ text) (n ∷ v)) whole
    (scans-digits limit used (b / 16) (b % 16) (hex_digit (b / 16)) (hex_digit (b % 16)) text v (digit (b / 16) (omega arith)) (digit (b % 16) (omega arith)) r)

-- trimmed lines have a first
pub some-lines : (ss : List (List ℕ)) → 0 < length ss → (s : List ℕ) × (rest : List (List ℕ)) × (ss ≡ s ∷ rest)
some-lines [] n = absurd (omega (arith, n))
some-lines (s ∷ rest) n = (s, rest, refl)

pub scans-hard : (limit used : ℕ) (text v : List ℕ) → used ≤ limit → Scans limit 0 text v → Scans limit used (13 ∷ 10 ∷ text) (13 ∷ 10 ∷ v)
unfolding pairs_only
scans-hard limit used text v h r =
    let some = some-lines (stripped text) (stripped-some text) in
    record {
      octets = r.octets;
      pairs = r.pairs;
      reads = subst (λ ss. Reads limit used ss (13 ∷ 10 ∷ v)) (sym (stripped-other 13 (10 ∷ text) refl ∙ ap (strip_onto 13) (stripped-feed text ∙ ap (λ ss. [] ∷ ss) some.2)))
          (reads-hard limit used some.0 some.1 v h (subst (λ ss. Reads limit 0 ss v) some.2 r.reads));
    }

pub scans-soft : (limit used : ℕ) (text v : List ℕ) → used + 1 ≤ limit → inked (stripped text) ≡ true → Scans limit 0 text v → Scans limit used (61 ∷ 13 ∷ 10 ∷ text) v
unfolding pairs_only
scans-soft limit used text v h i r =
    let some = some-lines (stripped text) (stripped-some text) in
    record {
      octets = r.octets;
      pairs = r.pairs;
      reads = subst (λ ss. Reads limit used ss v) (sym (stripped-other 61 (13 ∷ 10 ∷ text) refl ∙ ap (strip_onto 61) (stripped-other 13 (10 ∷ text) refl ∙ ap (strip_onto 13) (stripped-feed text ∙ ap (λ ss. [] ∷ ss) some.2))))
          (reads-soft limit used some.0 some.1 v h (rw some.2 at i) (subst (λ ss. Reads limit 0 ss v) some.2 r.reads));
    }

-- a text has something on its first line
pub inked-ink : (b : ℕ) (text : List ℕ) → Ink b → inked (stripped (b ∷ text)) ≡ true
inked-ink b text h = ap inked (stripped-other b text h.feed) ∙ by_lines (stripped text)
  where
    by_lines : (ss : List (List ℕ)) → inked (strip_onto b ss) ≡ true
    by_lines [] = ap (λ s. inked (s ∷ [])) (trim-ink b [] h.padding)
    by_lines (s ∷ rest) = ap (λ s. inked (s ∷ rest)) (trim-ink b s h.padding)

pub inked-within : (b : ℕ) (text : List ℕ) → eqb b 10 ≡ false → inked (stripped text) ≡ true → inked (stripped (b ∷ text)) ≡ true
inked-within b text h i = ap inked (stripped-other b text h) ∙ by_lines (stripped text) i
  where
    by_lines : (ss : List (List ℕ)) → inked ss ≡ true → inked (strip_onto b ss) ≡ true
    by_lines [] i = absurd (false≢true i)
    by_lines ([] ∷ rest) i = absurd (false≢true i)
    by_lines ((x ∷ s) ∷ rest) i = refl
