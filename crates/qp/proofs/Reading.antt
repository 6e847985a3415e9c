-- Lemmas on the text, the lines and the parts of quoted-printable input.
use Rattle.std.proofs.Common.{◌≡◌, ℕ, ◌+◌, ◌-◌, ◌<◌, ◌≤◌, get_or, drop, Bool, true, false, cond, not, ◌||◌, ◌&&◌, eqb, List, [], ◌∷◌, ◌++◌, length, take, refl, ap, ap₂, sym, ◌∙◌, arith}
use Rattle.std.specs.List.{suffix_len, slice_split, list_all, All}
use Rattle.std.proofs.lemmas.List.{append_assoc, take-append-drop, drop_more, drop_all, take-append-le, take_all, length_push, append-nil, reverse-append}
use Rattle.std.proofs.lemmas.List.Elements.{filter-append, All-filter}
use Rattle.std.proofs.lemmas.Bool.{and_parts, eqb-true, not-true}
use Rattle.std.proofs.lemmas.List.Splits.{slice_split_none, slice_split_at, length-slice_split}
use Rattle.std.proofs.lemmas.Bool.Decides.{nat_tests}
use Rattle.qp.specs.Items.{may_stand_within}
use Rattle.qp.specs.Text.{is_text_octet, is_line_padding, kept, trimmed, lines}
use Rattle.qp.specs.Line.{Part, literal, escape, cut_escape, soft_break, is_literal, parts, values, ends_soft, part_value, is_soft_break, escape_value, line_value}
use Rattle.qp.specs.Robust.{joined, line_end, robust}

pub kept_yes : (x : ℕ) (xs : List ℕ) → is_text_octet x ≡ true → kept (x ∷ xs) ≡ x ∷ kept xs
unfolding kept
kept_yes x xs h = rw h refl

pub kept_no : (x : ℕ) (xs : List ℕ) → is_text_octet x ≡ false → kept (x ∷ xs) ≡ kept xs
unfolding kept
kept_no x xs h = rw h refl

pub kept-append : (xs ys : List ℕ) → kept (xs ++ ys) ≡ kept xs ++ kept ys
unfolding kept
kept-append xs ys = filter-append is_text_octet xs ys

pub kept_push_yes : (xs : List ℕ) (x : ℕ) → is_text_octet x ≡ true → kept (xs ++ x ∷ []) ≡ kept xs ++ x ∷ []
unfolding kept
kept_push_yes xs x h = kept-append xs (x ∷ []) ∙ ap (λ k. kept xs ++ k) (kept_yes x [] h)

pub kept_push_no : (xs : List ℕ) (x : ℕ) → is_text_octet x ≡ false → kept (xs ++ x ∷ []) ≡ kept xs
unfolding kept
kept_push_no xs x h = kept-append xs (x ∷ []) ∙ ap (λ k. kept xs ++ k) (kept_no x [] h) ∙ append-nil (kept xs)

suffix_push : (p : ℕ → Bool) (xs : List ℕ) (x : ℕ) → suffix_len p (xs ++ x ∷ []) ≡ cond (p x) (1 + suffix_len p xs) 0
suffix_push p xs x = rw (reverse-append xs (x ∷ [])) refl

pub trimmed_padding : (xs : List ℕ) (x : ℕ) → is_line_padding x ≡ true → trimmed (xs ++ x ∷ []) ≡ trimmed xs
unfolding trimmed
trimmed_padding xs x h =
    let n : length (xs ++ x ∷ []) - suffix_len is_line_padding (xs ++ x ∷ []) ≡ length xs - suffix_len is_line_padding xs =
    rw (suffix_push is_line_padding xs x, h) (omega (arith, length_push xs x)) in
    rw n (take-append-le (length xs - suffix_len is_line_padding xs) xs (x ∷ []) (omega arith))

pub trimmed_other : (xs : List ℕ) (x : ℕ) → is_line_padding x ≡ false → trimmed (xs ++ x ∷ []) ≡ xs ++ x ∷ []
unfolding trimmed
trimmed_other xs x h =
    take_all (length (xs ++ x ∷ []) - suffix_len is_line_padding (xs ++ x ∷ [])) (xs ++ x ∷ [])
    (rw (suffix_push is_line_padding xs x, h) (omega arith))

pub kept_drop_yes : (xs : List ℕ) (i : ℕ) → i < length xs → is_text_octet (get_or xs i 0) ≡ true → kept (drop i xs) ≡ get_or xs i 0 ∷ kept (drop (i + 1) xs)
kept_drop_yes xs i h t = rw (drop_more xs i 0) (kept_yes (get_or xs i 0) (drop (i + 1) xs) t)

pub kept_drop_no : (xs : List ℕ) (i : ℕ) → i < length xs → is_text_octet (get_or xs i 0) ≡ false → kept (drop i xs) ≡ kept (drop (i + 1) xs)
kept_drop_no xs i h t = rw (drop_more xs i 0) (kept_no (get_or xs i 0) (drop (i + 1) xs) t)

pub kept_drop_all : (xs : List ℕ) (i : ℕ) → length xs ≤ i → kept (drop i xs) ≡ []
unfolding kept
kept_drop_all xs i h = rw (drop_all i xs h) refl

pub trimmed_nil : trimmed (kept []) ≡ kept []
unfolding trimmed kept
trimmed_nil = refl

pub trimmed_lost : (xs : List ℕ) (x : ℕ) → (not (is_text_octet x) || is_line_padding x) ≡ true → trimmed (kept (xs ++ x ∷ [])) ≡ trimmed (kept xs)
trimmed_lost xs x h = by_text (is_text_octet x) refl
  where
    by_text : (b : Bool) → is_text_octet x ≡ b → trimmed (kept (xs ++ x ∷ [])) ≡ trimmed (kept xs)
    by_text true e = rw (kept_push_yes xs x e) (trimmed_padding (kept xs) x (rw e at h))
    by_text false e = rw (kept_push_no xs x e) refl

pub trimmed_stays : (xs : List ℕ) (x : ℕ) → (not (is_text_octet x) || is_line_padding x) ≡ false → trimmed (kept (xs ++ x ∷ [])) ≡ kept (xs ++ x ∷ [])
trimmed_stays xs x h = by_text (is_text_octet x) refl
  where
    by_text : (b : Bool) → is_text_octet x ≡ b → trimmed (kept (xs ++ x ∷ [])) ≡ kept (xs ++ x ∷ [])
    by_text true e = rw (kept_push_yes xs x e) (trimmed_other (kept xs) x (rw e at h))
    by_text false e = let wrong : true ≡ false = rw e at h in cc

-- One part after another.
pub parts_literal : (b : ℕ) (rest : List ℕ) → eqb b 61 ≡ false → parts (b ∷ rest) ≡ literal b ∷ parts rest
unfolding parts
parts_literal b [] h = rw h refl
parts_literal b (u ∷ []) h = rw h refl
parts_literal b (u ∷ v ∷ rest) h = rw h refl

pub parts_escape : (b u v : ℕ) (rest : List ℕ) → eqb b 61 ≡ true → parts (b ∷ u ∷ v ∷ rest) ≡ escape u v ∷ parts rest
unfolding parts
parts_escape b u v rest h = rw h refl

pub parts_cut_escape : (b u : ℕ) → eqb b 61 ≡ true → parts (b ∷ u ∷ []) ≡ cut_escape u ∷ []
unfolding parts
parts_cut_escape b u h = rw h refl

pub parts_soft_break : (b : ℕ) → eqb b 61 ≡ true → parts (b ∷ []) ≡ soft_break ∷ []
unfolding parts
parts_soft_break b h = rw h refl

pub values-cons : (p : Part) (ps : List Part) → values (p ∷ ps) ≡ part_value p ++ values ps
unfolding values
values-cons p ps = refl

pub values-nil : values [] ≡ []
unfolding values
values-nil = refl

pub ends_soft-cons : (p : Part) (ps : List Part) → ends_soft (p ∷ ps) ≡ is_soft_break p || ends_soft ps
unfolding ends_soft
ends_soft-cons p ps = refl

pub parts_nil : parts [] ≡ []
unfolding parts
parts_nil = refl

-- One turn of a reader that appends the value of each part: `out` is what it has, `text` what is left of the line.
pub value_after_literal : (out total text rest : List ℕ) (b : ℕ) → eqb b 61 ≡ false → text ≡ b ∷ rest → out ++ values (parts text) ≡ total → (out ++ b ∷ []) ++ values (parts rest) ≡ total
value_after_literal out total text rest b h t e =
    append_assoc out (b ∷ []) (values (parts rest))
    ∙ ap (λ w. out ++ w) (sym (ap values (ap parts t ∙ parts_literal b rest h) ∙ values-cons (literal b) (parts rest)))
    ∙ e

pub soft_after_literal : (text rest : List ℕ) (b : ℕ) → eqb b 61 ≡ false → text ≡ b ∷ rest → ends_soft (parts rest) ≡ ends_soft (parts text)
soft_after_literal text rest b h t =
    sym (ap ends_soft (ap parts t ∙ parts_literal b rest h) ∙ ends_soft-cons (literal b) (parts rest))

-- a run of octets that stand for themselves
pub kept_run : (run : ℕ) (text : List ℕ) → list_all is_literal (take run text) ≡ true → kept text ≡ take run text ++ kept (drop run text)
kept_run run text h = ap kept (sym (take-append-drop run text)) ∙ by_front (take run text) h
  where
    by_front : (front : List ℕ) → list_all is_literal front ≡ true → kept (front ++ drop run text) ≡ front ++ kept (drop run text)
    by_front [] h = refl
    by_front (b ∷ front) h =
        let here = and_parts (is_literal b) (list_all is_literal front) h in
        let text_octet = and_parts (is_text_octet b) (not (eqb b 61)) here.0 in
        kept_yes b (front ++ drop run text) text_octet.0 ∙ ap (λ k. b ∷ k) (by_front front here.1)

values_run : (front rest : List ℕ) → list_all is_literal front ≡ true → values (parts (front ++ rest)) ≡ front ++ values (parts rest)
values_run [] rest h = refl
values_run (b ∷ front) rest h =
    let here = and_parts (is_literal b) (list_all is_literal front) h in
    let other = not-true (eqb b 61) (and_parts (is_text_octet b) (not (eqb b 61)) here.0).1 in
    ap values (parts_literal b (front ++ rest) other) ∙ values-cons (literal b) (parts (front ++ rest)) ∙ ap (λ v. b ∷ v) (values_run front rest here.1)

soft_run : (front rest : List ℕ) → list_all is_literal front ≡ true → ends_soft (parts (front ++ rest)) ≡ ends_soft (parts rest)
soft_run [] rest h = refl
soft_run (b ∷ front) rest h =
    let here = and_parts (is_literal b) (list_all is_literal front) h in
    let other = not-true (eqb b 61) (and_parts (is_text_octet b) (not (eqb b 61)) here.0).1 in
    ap ends_soft (parts_literal b (front ++ rest) other) ∙ ends_soft-cons (literal b) (parts (front ++ rest)) ∙ soft_run front rest here.1

pub value_after_run : (out total text front rest : List ℕ) → list_all is_literal front ≡ true → text ≡ front ++ rest → out ++ values (parts text) ≡ total → (out ++ front) ++ values (parts rest) ≡ total
value_after_run out total text front rest h t e =
    append_assoc out front (values (parts rest))
    ∙ ap (λ w. out ++ w) (sym (ap (λ t. values (parts t)) t ∙ values_run front rest h))
    ∙ e

pub soft_after_run : (text front rest : List ℕ) → list_all is_literal front ≡ true → text ≡ front ++ rest → ends_soft (parts rest) ≡ ends_soft (parts text)
soft_after_run text front rest h t = sym (ap (λ t. ends_soft (parts t)) t ∙ soft_run front rest h)

literal_front : (front : List ℕ) → list_all may_stand_within front ≡ true → list_all is_literal front ≡ true
literal_front [] h = refl
literal_front (b ∷ front) h =
    let here = and_parts (may_stand_within b) (list_all may_stand_within front) h in
    ap₂ (λ x y. x && y) (literal b here.0) (literal_front front here.1)
  where
    literal : (b : ℕ) → may_stand_within b ≡ true → is_literal b ≡ true
    literal b h = grind (arith, nat_tests)

-- One turn over a run of octets that stand for themselves: `text` is what is left of the line.
pub kept_front : (run : ℕ) (text : List ℕ) → list_all may_stand_within (take run text) ≡ true → kept text ≡ take run text ++ kept (drop run text)
kept_front run text h = kept_run run text (literal_front (take run text) h)

pub value_after_front : (out total text : List ℕ) (run : ℕ) → list_all may_stand_within (take run text) ≡ true → out ++ values (parts (kept text)) ≡ total → (out ++ take run text) ++ values (parts (kept (drop run text))) ≡ total
value_after_front out total text run h e = value_after_run out total (kept text) (take run text) (kept (drop run text)) (literal_front (take run text) h) (kept_front run text h) e

pub soft_after_front : (text : List ℕ) (run : ℕ) → list_all may_stand_within (take run text) ≡ true → ends_soft (parts (kept (drop run text))) ≡ ends_soft (parts (kept text))
soft_after_front text run h = soft_after_run (kept text) (take run text) (kept (drop run text)) (literal_front (take run text) h) (kept_front run text h)

-- the same, where nothing is dropped
pub soft_behind : (text : List ℕ) (run : ℕ) → list_all may_stand_within (take run text) ≡ true → ends_soft (parts (drop run text)) ≡ ends_soft (parts text)
soft_behind text run h = soft_after_run text (take run text) (drop run text) (literal_front (take run text) h) (sym (take-append-drop run text))

pub parts_at_escape : (text second third rest : List ℕ) (b u v : ℕ) → eqb b 61 ≡ true → text ≡ b ∷ second → second ≡ u ∷ third → third ≡ v ∷ rest → parts text ≡ escape u v ∷ parts rest
parts_at_escape text second third rest b u v h e f g = rw (e, f, g) (parts_escape b u v rest h)

pub value_after_escape : (out total text rest : List ℕ) (u v : ℕ) → parts text ≡ escape u v ∷ parts rest → out ++ values (parts text) ≡ total → (out ++ escape_value u v) ++ values (parts rest) ≡ total
value_after_escape out total text rest u v t e =
    append_assoc out (escape_value u v) (values (parts rest))
    ∙ ap (λ w. out ++ w) (sym (ap values t ∙ values-cons (escape u v) (parts rest)))
    ∙ e

pub soft_after_escape : (text rest : List ℕ) (u v : ℕ) → parts text ≡ escape u v ∷ parts rest → ends_soft (parts rest) ≡ ends_soft (parts text)
soft_after_escape text rest u v t = sym (ap ends_soft t ∙ ends_soft-cons (escape u v) (parts rest))

-- an escape of two octets that may stand in text
pub kept_escape : (text : List ℕ) → 3 ≤ length text → eqb (get_or text 0 0) 61 ≡ true → is_text_octet (get_or text 1 0) ≡ true → is_text_octet (get_or text 2 0) ≡ true
    → parts (kept text) ≡ escape (get_or text 1 0) (get_or text 2 0) ∷ parts (kept (drop 3 text))
kept_escape [] h e f g = absurd (omega arith)
kept_escape (b ∷ []) h e f g = absurd (omega arith)
kept_escape (b ∷ u ∷ []) h e f g = absurd (omega arith)
kept_escape (b ∷ u ∷ v ∷ rest) h e f g =
    let sign : is_text_octet b ≡ true = ap is_text_octet (eqb-true b 61 e) in
    let all = kept_yes b (u ∷ v ∷ rest) sign ∙ ap (λ k. b ∷ k) (kept_yes u (v ∷ rest) f ∙ ap (λ k. u ∷ k) (kept_yes v rest g)) in
    ap parts all ∙ parts_escape b u v (kept rest) e

pub value_of_escape : (text rest : List ℕ) (u v octet : ℕ) → parts text ≡ escape u v ∷ parts rest → escape_value u v ≡ octet ∷ [] → values (parts text) ≡ octet ∷ values (parts rest)
value_of_escape text rest u v octet e is = ap values e ∙ values-cons (escape u v) (parts rest) ∙ ap (λ o. o ++ values (parts rest)) is

pub parts_at_cut : (text second third : List ℕ) (b u : ℕ) → eqb b 61 ≡ true → text ≡ b ∷ second → second ≡ u ∷ third → third ≡ [] → parts text ≡ cut_escape u ∷ []
parts_at_cut text second third b u h e f g = rw (e, f, g) (parts_cut_escape b u h)

pub parts_at_soft : (text second : List ℕ) (b : ℕ) → eqb b 61 ≡ true → text ≡ b ∷ second → second ≡ [] → parts text ≡ soft_break ∷ []
parts_at_soft text second b h e f = rw (e, f) (parts_soft_break b h)

pub values_cut : (u : ℕ) → values (cut_escape u ∷ []) ≡ 61 ∷ u ∷ []
unfolding values
values_cut u = refl

pub values_soft : values (soft_break ∷ []) ≡ []
unfolding values
values_soft = refl

pub ends_soft_cut : (u : ℕ) → ends_soft (cut_escape u ∷ []) ≡ false
unfolding ends_soft
ends_soft_cut u = refl

pub ends_soft_soft : ends_soft (soft_break ∷ []) ≡ true
unfolding ends_soft
ends_soft_soft = refl

pub ends_soft_nil : ends_soft [] ≡ false
unfolding ends_soft
ends_soft_nil = refl

-- One line after another.
joined_more : (line : List ℕ) (ps : List (List ℕ)) → 0 < length ps → joined (line ∷ ps) ≡ line_value line ++ line_end line ++ joined ps
unfolding joined
joined_more line [] h = absurd (omega arith)
joined_more line (p ∷ ps) h = refl

lines_some : (text : List ℕ) → 0 < length (lines text)
unfolding lines
lines_some text = omega (arith, length-slice_split (λ b. eqb b 10) text)

kept_one_line : (text : List ℕ) → All (λ b. eqb b 10 ≡ false) text → All (λ b. eqb b 10 ≡ false) (kept text)
unfolding kept
kept_one_line text one = All-filter is_text_octet (λ b. eqb b 10 ≡ false) text one

pub robust_one_line : (text : List ℕ) → All (λ b. eqb b 10 ≡ false) text → robust text ≡ line_value (kept text)
unfolding robust joined lines
robust_one_line text one = ap joined (slice_split_none (λ b. eqb b 10) (kept text) (kept_one_line text one))

pub robust_line : (line rest : List ℕ) → All (λ b. eqb b 10 ≡ false) line → robust (line ++ 10 ∷ rest) ≡ line_value (kept line) ++ line_end (kept line) ++ robust rest
unfolding robust lines
robust_line line rest one =
    ap (λ t. joined (slice_split (λ b. eqb b 10) t)) (kept-append line (10 ∷ rest) ∙ ap (λ t. kept line ++ t) (kept_yes 10 rest refl))
    ∙ ap joined (slice_split_at (λ b. eqb b 10) (kept line) 10 (kept rest) (kept_one_line line one) refl)
    ∙ joined_more (kept line) (lines (kept rest)) (lines_some (kept rest))
