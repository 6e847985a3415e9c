-- What is laid out stands in rows of whole items, none too long.
use Rattle.std.proofs.Common.{◌≡◌, ℕ, ◌+◌, ◌/◌, ◌%◌, ◌<◌, ◌≤◌, Bool, true, false, ◌&&◌, eqb, inl, inr, List, [], ◌∷◌, ◌++◌, map, length, refl, ap, sym, ◌∙◌, subst, arith}
use Rattle.std.specs.List.{onto_first, All, AllByRecursion as ByRecursion}
use Rattle.std.proofs.lemmas.Bool.{and_parts, or_cases}
use Rattle.std.proofs.lemmas.Bool.Decides.{nat_tests}
use Rattle.std.proofs.lemmas.List.Elements.{recursion_from_All, All-from_recursion}
use Rattle.qp.specs.declared.InputMode.{InputMode}
use Rattle.qp.specs.Items.{Item, hard_break, plain, escaped, item_text, items_text, hex_digit, is_blank, is_graphic, items}
use Rattle.qp.specs.Layout.{goes_on, breaks_before, laid_out_from, laid_out, broken_lines}
use Rattle.qp.specs.Rows.{Row, row_text, rows_items, StandsInRows}
use Rattle.qp.proofs.ItemLemmas.{lay-none, lay-hard, lay-broken, lay-fits}
use Rattle.qp.proofs.Scanning.{ink, Digit, digit}
use Rattle.qp.proofs.Inverse.{Good, GoodItem, fits, items-good}

-- rows of items behind `used` octets of a line
pub record InRows (limit used : ℕ) (list : List Item) (text : List ℕ) : Type 0 where
  pub first : Row
  pub rest : List Row
  pub lines : broken_lines text ≡ map row_text (first ∷ rest)
  pub whole : rows_items (first ∷ rest) ≡ list
  pub fits : used + length (row_text first) ≤ limit
  pub short : ByRecursion (λ line. length line ≤ limit) (map row_text rest)

broken-other : (b : ℕ) (text : List ℕ) → eqb b 13 ≡ false → broken_lines (b ∷ text) ≡ onto_first b (broken_lines text)
unfolding broken_lines
broken-other b [] h = refl
broken-other b (c ∷ rest) h = rw h refl

broken-pair : (text : List ℕ) → broken_lines (13 ∷ 10 ∷ text) ≡ [] ∷ broken_lines text
unfolding broken_lines
broken-pair text = refl

whole-more : (item : Item) (row : Row) (rest : List Row) → rows_items (record { here = item ∷ row.here; soft = row.soft } ∷ rest) ≡ item ∷ rows_items (row ∷ rest)
unfolding rows_items
whole-more item row [] = refl
whole-more item row (next ∷ rest) = refl

rows-none : (limit used : ℕ) → used ≤ limit → InRows limit used [] []
unfolding broken_lines rows_items items_text
rows-none limit used h = record {
  first = record { here = []; soft = false };
  rest = [];
  lines = refl;
  whole = refl;
  fits = omega arith;
  short = tt;
}

rows-plain : (limit used b : ℕ) (list : List Item) (text : List ℕ) → eqb b 13 ≡ false → InRows limit (used + 1) list text → InRows limit used (plain b ∷ list) (b ∷ text)
unfolding items_text
rows-plain limit used b list text h r = record {
  first = record { here = plain b ∷ r.first.here; soft = r.first.soft };
  rest = r.rest;
  lines = broken-other b text h ∙ ap (onto_first b) r.lines;
  whole = whole-more (plain b) r.first r.rest ∙ ap (λ l. plain b ∷ l) r.whole;
  fits = (let most = r.fits in omega (arith, most));
  short = r.short;
}

rows-digits : (limit used b u w : ℕ) (list : List Item) (text : List ℕ) → u ≡ hex_digit (b / 16) → w ≡ hex_digit (b % 16) → eqb u 13 ≡ false → eqb w 13 ≡ false
    → InRows limit (used + 3) list text → InRows limit used (escaped b ∷ list) (61 ∷ u ∷ w ∷ text)
unfolding items_text
rows-digits limit used b u w list text is_u is_w h e r = record {
  first = record { here = escaped b ∷ r.first.here; soft = r.first.soft };
  rest = r.rest;
  lines =
      broken-other 61 (u ∷ w ∷ text) refl
      ∙ ap (onto_first 61) (broken-other u (w ∷ text) h ∙ ap (onto_first u) (broken-other w text e ∙ ap (onto_first w) r.lines))
      ∙ ap (λ d. (61 ∷ d ∷ w ∷ row_text r.first) ∷ map row_text r.rest) is_u
      ∙ ap (λ d. (61 ∷ hex_digit (b / 16) ∷ d ∷ row_text r.first) ∷ map row_text r.rest) is_w;
  whole = whole-more (escaped b) r.first r.rest ∙ ap (λ l. escaped b ∷ l) r.whole;
  fits = (let most = r.fits in omega (arith, most));
  short = r.short;
}

rows-hard : (limit used : ℕ) (list : List Item) (text : List ℕ) → used ≤ limit → InRows limit 0 list text → InRows limit used (hard_break ∷ list) (13 ∷ 10 ∷ text)
unfolding items_text rows_items
rows-hard limit used list text h r = record {
  first = record { here = []; soft = false };
  rest = r.first ∷ r.rest;
  lines = broken-pair text ∙ ap (λ ls. [] ∷ ls) r.lines;
  whole = ap (λ l. hard_break ∷ l) r.whole;
  fits = omega arith;
  short = (omega (arith, r.fits), r.short);
}

rows-soft : (limit used : ℕ) (list : List Item) (text : List ℕ) → used + 1 ≤ limit → InRows limit 0 list text → InRows limit used list (61 ∷ 13 ∷ 10 ∷ text)
unfolding items_text rows_items
rows-soft limit used list text h r = record {
  first = record { here = []; soft = true };
  rest = r.first ∷ r.rest;
  lines = broken-other 61 (13 ∷ 10 ∷ text) refl ∙ ap (onto_first 61) (broken-pair text ∙ ap (λ ls. [] ∷ ls) r.lines);
  whole = r.whole;
  fits = omega arith;
  short = (omega (arith, r.fits), r.short);
}

rows-escaped : (limit used b : ℕ) (list : List Item) (text : List ℕ) → b < 256 → InRows limit (used + 3) list text → InRows limit used (escaped b ∷ list) (item_text (escaped b) ++ text)
rows-escaped limit used b list text h r =
    let high : Digit (b / 16) (hex_digit (b / 16)) = digit (b / 16) (omega arith) in
    let low : Digit (b % 16) (hex_digit (b % 16)) = digit (b % 16) (omega arith) in
    rows-digits limit used b (hex_digit (b / 16)) (hex_digit (b % 16)) list text refl refl
    (ink (hex_digit (b / 16)) high.low high.high).return (ink (hex_digit (b % 16)) low.low low.high).return r

no_return : (b : ℕ) (rest : List Item) → GoodItem (plain b) rest → eqb b 13 ≡ false
no_return b rest h = elim (or_cases (is_graphic b) (is_blank b && goes_on rest) h) [
  | inl graphic ↦ graphic_return b graphic
  | inr within ↦ blank_return b (and_parts (is_blank b) (goes_on rest) within).0
]
  where
    graphic_return : (b : ℕ) → is_graphic b ≡ true → eqb b 13 ≡ false
    graphic_return b h = grind (arith, nat_tests)

    blank_return : (b : ℕ) → is_blank b ≡ true → eqb b 13 ≡ false
    blank_return b h = grind (arith, nat_tests)

abbrev Later : ℕ → List Item → Type 0
Later limit rest = (u : ℕ) → u ≤ limit → (goes_on rest ≡ true → u < limit) → InRows limit u rest (laid_out_from limit u rest)

rows-lay-plain : (limit used b : ℕ) (rest : List Item) → 6 ≤ limit → (true ≡ true → used < limit) → GoodItem (plain b) rest → Later limit rest
    → InRows limit used (plain b ∷ rest) (laid_out_from limit used (plain b ∷ rest))
rows-lay-plain limit used b rest six room h later = by_break (breaks_before limit used 1 (goes_on rest)) refl
  where
    by_break : (t : Bool) → breaks_before limit used 1 (goes_on rest) ≡ t → InRows limit used (plain b ∷ rest) (laid_out_from limit used (plain b ∷ rest))
    by_break true e =
        let below : used < limit = room refl in
        subst (λ t. InRows limit used (plain b ∷ rest) t) (sym (lay-broken limit used (plain b) rest refl e))
        (rows-soft limit used (plain b ∷ rest) _ (omega arith) (rows-plain limit 0 b rest _ (no_return b rest h) (later 1 (omega arith) (λ g. omega arith))))
    by_break false e =
        let within = fits limit used 1 (goes_on rest) e in
        subst (λ t. InRows limit used (plain b ∷ rest) t) (sym (lay-fits limit used (plain b) rest refl e))
        (rows-plain limit used b rest _ (no_return b rest h) (later (used + 1) within.0 within.1))

rows-lay-escaped : (limit used b : ℕ) (rest : List Item) → 6 ≤ limit → (true ≡ true → used < limit) → b < 256 → Later limit rest
    → InRows limit used (escaped b ∷ rest) (laid_out_from limit used (escaped b ∷ rest))
rows-lay-escaped limit used b rest six room h later = by_break (breaks_before limit used 3 (goes_on rest)) refl
  where
    by_break : (t : Bool) → breaks_before limit used 3 (goes_on rest) ≡ t → InRows limit used (escaped b ∷ rest) (laid_out_from limit used (escaped b ∷ rest))
    by_break true e =
        let below : used < limit = room refl in
        subst (λ t. InRows limit used (escaped b ∷ rest) t) (sym (lay-broken limit used (escaped b) rest refl e))
        (rows-soft limit used (escaped b ∷ rest) _ (omega arith) (rows-escaped limit 0 b rest _ h (later 3 (omega arith) (λ g. omega arith))))
    by_break false e =
        let within = fits limit used 3 (goes_on rest) e in
        subst (λ t. InRows limit used (escaped b ∷ rest) t) (sym (lay-fits limit used (escaped b) rest refl e))
        (rows-escaped limit used b rest _ h (later (used + 3) within.0 within.1))

rows-lay : (limit used : ℕ) (list : List Item) → 6 ≤ limit → used ≤ limit → (goes_on list ≡ true → used < limit) → Good list → InRows limit used list (laid_out_from limit used list)
rows-lay limit used [] six most room h = subst (λ t. InRows limit used [] t) (sym (lay-none limit used)) (rows-none limit used most)
rows-lay limit used (hard_break ∷ rest) six most room h =
    subst (λ t. InRows limit used (hard_break ∷ rest) t) (sym (lay-hard limit used rest))
    (rows-hard limit used rest _ most (rows-lay limit 0 rest six (omega arith) (λ g. omega (arith, six)) h.1))
rows-lay limit used (plain b ∷ rest) six most room h =
    rows-lay-plain limit used b rest six room h.0 (λ u m g. rows-lay limit u rest six m g h.1)
rows-lay limit used (escaped b ∷ rest) six most room h =
    rows-lay-escaped limit used b rest six room h.0 (λ u m g. rows-lay limit u rest six m g h.1)

laid : (mode : InputMode) (limit : ℕ) (bytes : List ℕ) → 6 ≤ limit → All (λ b. b < 256) bytes → InRows limit 0 (items mode bytes) (laid_out limit (items mode bytes))
unfolding laid_out
laid mode limit bytes six h =
    rows-lay limit 0 (items mode bytes) six (omega arith) (λ g. omega arith) (items-good mode bytes (recursion_from_All (λ b. b < 256) bytes h))

pub whole_items_law : (mode : InputMode) (limit : ℕ) (bytes : List ℕ) → 6 ≤ limit → All (λ b. b < 256) bytes → StandsInRows (items mode bytes) (laid_out limit (items mode bytes))
whole_items_law mode limit bytes six h =
    let r = laid mode limit bytes six h in
    (r.first ∷ r.rest, r.lines, r.whole)

pub short_lines_law : (mode : InputMode) (limit : ℕ) (bytes : List ℕ) → 6 ≤ limit → All (λ b. b < 256) bytes → All (λ line. length line ≤ limit) (broken_lines (laid_out limit (items mode bytes)))
short_lines_law mode limit bytes six h =
    let r = laid mode limit bytes six h in
    subst (All (λ line. length line ≤ limit)) (sym r.lines)
    (All-from_recursion (λ line. length line ≤ limit) (map row_text (r.first ∷ r.rest)) (omega (arith, r.fits), r.short))
