-- Quoted-printable text by what stands before the rest of its first line.
use Rattle.std.proofs.Common.{◌≡◌, ℕ, suc, ◌+◌, ◌-◌, ◌<◌, Bool, true, false, cond, not, ◌||◌, eqb, List, [], ◌∷◌, ◌++◌, map, length, take, reverse, refl, ap, sym, ◌∙◌, arith, append_assoc, append-nil, inl, inr}
use Rattle.std.specs.List.{suffix_len, prefix_len, onto_first, list_all}
use Rattle.std.proofs.lemmas.Bool.{and_parts, eqb-true, eqb-false, not-true, or_cases}
use Rattle.std.proofs.lemmas.List.{reverse-append, length-reverse, length-take-le}
use Rattle.std.proofs.lemmas.List.Elements.{filter-append}
use Rattle.std.proofs.lemmas.List.Folds.{prefix_len-append}
use Rattle.std.proofs.lemmas.List.Sums.{suffix_len-le-length}
use Rattle.std.specs.Char.{is_digit}
use Rattle.qp.specs.Text.{is_text_octet, is_line_padding, kept, trimmed, lines}
use Rattle.qp.specs.Line.{literal, escape, parts, values, ends_soft, escape_value, line_value, is_soft}
use Rattle.qp.specs.Robust.{joined, robust}

-- a trimmed line with an octet put before it
abbrev pub trim_onto : ℕ → List ℕ → List ℕ
trim_onto b [] = cond (is_line_padding b) [] (b ∷ [])
trim_onto b (x ∷ xs) = b ∷ x ∷ xs

trim_onto-some : (b : ℕ) (t : List ℕ) → 0 < length t → trim_onto b t ≡ b ∷ t
trim_onto-some b [] h = absurd (omega arith)
trim_onto-some b (x ∷ xs) h = refl

suffix_len-cons : (b : ℕ) (line : List ℕ) → suffix_len is_line_padding (b ∷ line)
    ≡ cond (eqb (suffix_len is_line_padding line) (length line)) (length line + cond (is_line_padding b) 1 0) (suffix_len is_line_padding line)
suffix_len-cons b line =
    ap (prefix_len is_line_padding) (reverse-append (b ∷ []) line)
    ∙ prefix_len-append is_line_padding (reverse line) (b ∷ [])
    ∙ ap (λ n. cond (eqb (suffix_len is_line_padding line) n) (n + cond (is_line_padding b) 1 0) (suffix_len is_line_padding line)) (length-reverse line)

pub trimmed-cons : (b : ℕ) (line : List ℕ) → trimmed (b ∷ line) ≡ trim_onto b (trimmed line)
unfolding trimmed
trimmed-cons b line = by_all (eqb (suffix_len is_line_padding line) (length line)) refl
  where
    by_all : (all : Bool) → eqb (suffix_len is_line_padding line) (length line) ≡ all
        → take (length (b ∷ line) - suffix_len is_line_padding (b ∷ line)) (b ∷ line) ≡ trim_onto b (take (length line - suffix_len is_line_padding line) line)
    by_all true e = by_padding (is_line_padding b) refl
      where
        whole : suffix_len is_line_padding line ≡ length line
        whole = eqb-true (suffix_len is_line_padding line) (length line) e

        nothing : take (length line - suffix_len is_line_padding line) line ≡ []
        nothing = let none : length line - suffix_len is_line_padding line ≡ 0 = omega (arith, whole) in ap (λ n. take n line) none

        by_padding : (p : Bool) → is_line_padding b ≡ p
            → take (length (b ∷ line) - suffix_len is_line_padding (b ∷ line)) (b ∷ line) ≡ trim_onto b (take (length line - suffix_len is_line_padding line) line)
        by_padding true f =
            let n : length (b ∷ line) - suffix_len is_line_padding (b ∷ line) ≡ 0 = rw (suffix_len-cons b line, e, f) (omega arith) in
            ap (λ n. take n (b ∷ line)) n ∙ sym (ap (trim_onto b) nothing ∙ ap (λ p. cond p [] (b ∷ [])) f)
        by_padding false f =
            let n : length (b ∷ line) - suffix_len is_line_padding (b ∷ line) ≡ 1 = rw (suffix_len-cons b line, e, f) (omega arith) in
            ap (λ n. take n (b ∷ line)) n ∙ sym (ap (trim_onto b) nothing ∙ ap (λ p. cond p [] (b ∷ [])) f)
    by_all false e =
        let some : ¬ (suffix_len is_line_padding line ≡ length line) = eqb-false (suffix_len is_line_padding line) (length line) e in
        let most = suffix_len-le-length is_line_padding line in
        let n : length (b ∷ line) - suffix_len is_line_padding (b ∷ line) ≡ suc (length line - suffix_len is_line_padding line) = rw (suffix_len-cons b line, e) (omega arith) in
        ap (λ n. take n (b ∷ line)) n ∙ sym (trim_onto-some b (take (length line - suffix_len is_line_padding line) line) (omega (arith, length-take-le (length line - suffix_len is_line_padding line) line (omega arith))))

-- the trimmed lines of a text
unfoldable pub stripped : List ℕ → List (List ℕ)
stripped text = map trimmed (lines text)

-- trimmed lines with an octet put before the first
abbrev pub strip_onto : ℕ → List (List ℕ) → List (List ℕ)
strip_onto b [] = trim_onto b [] ∷ []
strip_onto b (line ∷ rest) = trim_onto b line ∷ rest

pub trimmed-none : trimmed [] ≡ []
unfolding trimmed
trimmed-none = refl

map-onto_first : (b : ℕ) (ls : List (List ℕ)) → map trimmed (onto_first b ls) ≡ strip_onto b (map trimmed ls)
map-onto_first b [] = ap (λ t. t ∷ []) (trimmed-cons b []) ∙ ap (λ t. trim_onto b t ∷ []) trimmed-none
map-onto_first b (line ∷ rest) = ap (λ t. t ∷ map trimmed rest) (trimmed-cons b line)

pub stripped-other : (b : ℕ) (text : List ℕ) → eqb b 10 ≡ false → stripped (b ∷ text) ≡ strip_onto b (stripped text)
unfolding stripped lines
stripped-other b text h = rw h (map-onto_first b (lines text))

pub stripped-feed : (text : List ℕ) → stripped (10 ∷ text) ≡ [] ∷ stripped text
unfolding stripped lines trimmed
stripped-feed text = refl

pub stripped-none : stripped [] ≡ [] ∷ []
unfolding stripped lines trimmed
stripped-none = refl

-- octets that may stand in text
pub kept_yes : (x : ℕ) (xs : List ℕ) → is_text_octet x ≡ true → kept (x ∷ xs) ≡ x ∷ kept xs
unfolding kept
kept_yes x xs h = rw h refl

pub kept_no : (x : ℕ) (xs : List ℕ) → is_text_octet x ≡ false → kept (x ∷ xs) ≡ kept xs
unfolding kept
kept_no x xs h = rw h refl

pub kept-append : (xs ys : List ℕ) → kept (xs ++ ys) ≡ kept xs ++ kept ys
unfolding kept
kept-append xs ys = filter-append is_text_octet xs ys

pub kept-none : kept [] ≡ []
unfolding kept
kept-none = refl

pub kept_all : (p x : List ℕ) → list_all is_text_octet p ≡ true → kept (p ++ x) ≡ p ++ kept x
kept_all [] x h = refl
kept_all (b ∷ p) x h =
    let q = and_parts (is_text_octet b) (list_all is_text_octet p) h in
    kept_yes b (p ++ x) q.0 ∙ ap (λ k. b ∷ k) (kept_all p x q.1)

-- a text by its first line and the lines behind it, both trimmed
abbrev pub line_break : Bool → List ℕ
line_break soft = cond soft [] (13 ∷ 10 ∷ [])

abbrev pub value_of : List ℕ → List (List ℕ) → List ℕ
value_of line [] = values (parts line)
value_of line (next ∷ rest) = values (parts line) ++ (line_break (ends_soft (parts line)) ++ value_of next rest)

abbrev pub first_of : List (List ℕ) → List ℕ
first_of [] = []
first_of (line ∷ rest) = line

abbrev pub behind : List (List ℕ) → List (List ℕ)
behind [] = []
behind (line ∷ rest) = rest

nothing-value : values (parts []) ≡ []
unfolding values parts
nothing-value = refl

joined-value : (ls : List (List ℕ)) → joined ls ≡ value_of (first_of (map trimmed ls)) (behind (map trimmed ls))
unfolding joined line_value is_soft
joined-value [] = sym nothing-value
joined-value (line ∷ []) = refl
joined-value (line ∷ next ∷ rest) =
    append_assoc (values (parts (trimmed line))) (line_break (ends_soft (parts (trimmed line)))) (joined (next ∷ rest))
    ∙ ap (λ v. values (parts (trimmed line)) ++ (line_break (ends_soft (parts (trimmed line))) ++ v)) (joined-value (next ∷ rest))

pub robust-value : (text : List ℕ) → robust text ≡ value_of (first_of (stripped (kept text))) (behind (stripped (kept text)))
unfolding robust stripped
robust-value text = joined-value (lines (kept text))

-- the text has a first line
strip_onto-some : (b : ℕ) (ls : List (List ℕ)) → strip_onto b ls ≡ first_of (strip_onto b ls) ∷ behind (strip_onto b ls)
strip_onto-some b [] = refl
strip_onto-some b (line ∷ rest) = refl

pub stripped_some : (text : List ℕ) → stripped text ≡ first_of (stripped text) ∷ behind (stripped text)
stripped_some [] = stripped-none ∙ sym (ap (λ ls. first_of ls ∷ behind ls) stripped-none)
stripped_some (b ∷ text) = by_feed (eqb b 10) refl
  where
    by_feed : (t : Bool) → eqb b 10 ≡ t → stripped (b ∷ text) ≡ first_of (stripped (b ∷ text)) ∷ behind (stripped (b ∷ text))
    by_feed true e =
        let feed : stripped (b ∷ text) ≡ [] ∷ stripped text = ap (λ c. stripped (c ∷ text)) (eqb-true b 10 e) ∙ stripped-feed text in
        feed ∙ sym (ap (λ ls. first_of ls ∷ behind ls) feed)
    by_feed false e =
        let other = stripped-other b text e in
        other ∙ strip_onto-some b (stripped text) ∙ sym (ap (λ ls. first_of ls ∷ behind ls) other)

-- no LF
abbrev pub no_feeds : List ℕ → Bool
no_feeds p = list_all (λ c. not (eqb c 10)) p

-- the line goes on with an octet that isn't lost at its end
trim_other : (b : ℕ) (line : List ℕ) → is_line_padding b ≡ false → trim_onto b line ≡ b ∷ line
trim_other b [] h = ap (λ p. cond p [] (b ∷ [])) h
trim_other b (x ∷ xs) h = refl

onto_other : (b : ℕ) (ls : List (List ℕ)) → is_line_padding b ≡ false → strip_onto b ls ≡ (b ∷ first_of ls) ∷ behind ls
onto_other b [] h = ap (λ t. t ∷ []) (trim_other b [] h)
onto_other b (line ∷ rest) h = ap (λ t. t ∷ rest) (trim_other b line h)

trim_behind : (c : ℕ) (p : List ℕ) (b : ℕ) (x : List ℕ) → trim_onto c (p ++ b ∷ x) ≡ c ∷ (p ++ b ∷ x)
trim_behind c [] b x = refl
trim_behind c (d ∷ p) b x = refl

pub stripped_goes_on : (p : List ℕ) (b : ℕ) (text : List ℕ) → no_feeds p ≡ true → is_line_padding b ≡ false → eqb b 10 ≡ false
    → stripped (p ++ b ∷ text) ≡ (p ++ b ∷ first_of (stripped text)) ∷ behind (stripped text)
stripped_goes_on [] b text none pad feed = stripped-other b text feed ∙ onto_other b (stripped text) pad
stripped_goes_on (c ∷ p) b text none pad feed =
    let q = and_parts (not (eqb c 10)) (no_feeds p) none in
    stripped-other c (p ++ b ∷ text) (not-true (eqb c 10) q.0)
    ∙ ap (strip_onto c) (stripped_goes_on p b text q.1 pad feed)
    ∙ ap (λ l. l ∷ behind (stripped text)) (trim_behind c p b (first_of (stripped text)))

-- the line ends
abbrev pub trim_all : List ℕ → List ℕ
trim_all [] = []
trim_all (b ∷ p) = trim_onto b (trim_all p)

pub stripped_ends : (p text : List ℕ) → no_feeds p ≡ true → stripped (p ++ 10 ∷ text) ≡ trim_all p ∷ stripped text
stripped_ends [] text none = stripped-feed text
stripped_ends (c ∷ p) text none =
    let q = and_parts (not (eqb c 10)) (no_feeds p) none in
    stripped-other c (p ++ 10 ∷ text) (not-true (eqb c 10) q.0) ∙ ap (strip_onto c) (stripped_ends p text q.1)

pub stripped_last : (p : List ℕ) → no_feeds p ≡ true → stripped p ≡ trim_all p ∷ []
stripped_last [] none = stripped-none
stripped_last (c ∷ p) none =
    let q = and_parts (not (eqb c 10)) (no_feeds p) none in
    stripped-other c p (not-true (eqb c 10) q.0) ∙ ap (strip_onto c) (stripped_last p q.1)

-- of a line a front is read: it stands for `given`, and the rest is read as a line of its own
abbrev pub Reads : List ℕ → List ℕ → List ℕ → Type 0
Reads line given rest = (values (parts line) ≡ given ++ values (parts rest)) × (ends_soft (parts line) ≡ ends_soft (parts rest))

pub reads_none : (line : List ℕ) → Reads line [] line
reads_none line = (refl, refl)

pub Reads-trans : (a b c v w : List ℕ) → Reads a v b → Reads b w c → Reads a (v ++ w) c
Reads-trans a b c v w r s = (r.0 ∙ ap (λ x. v ++ x) s.0 ∙ sym (append_assoc v w (values (parts c))), r.1 ∙ s.1)

parts_literal : (b : ℕ) (rest : List ℕ) → eqb b 61 ≡ false → parts (b ∷ rest) ≡ literal b ∷ parts rest
unfolding parts
parts_literal b [] h = rw h refl
parts_literal b (u ∷ []) h = rw h refl
parts_literal b (u ∷ v ∷ rest) h = rw h refl

parts_escape : (u v : ℕ) (rest : List ℕ) → parts (61 ∷ u ∷ v ∷ rest) ≡ escape u v ∷ parts rest
unfolding parts
parts_escape u v rest = refl

pub reads_literal : (b : ℕ) (rest : List ℕ) → eqb b 61 ≡ false → Reads (b ∷ rest) (b ∷ []) rest
unfolding values ends_soft
reads_literal b rest h = (ap values (parts_literal b rest h), ap ends_soft (parts_literal b rest h))

pub reads_escape : (u v : ℕ) (rest : List ℕ) → Reads (61 ∷ u ∷ v ∷ rest) (escape_value u v) rest
unfolding values ends_soft
reads_escape u v rest = (ap values (parts_escape u v rest), ap ends_soft (parts_escape u v rest))

-- what is true of tab, CR and space is true of a blank
pub by_blank : (f : ℕ → Bool) (v : Bool) (c : ℕ) → is_line_padding c ≡ true → f 9 ≡ v → f 13 ≡ v → f 32 ≡ v → f c ≡ v
by_blank f v c h tab return space =
    elim (or_cases (eqb c 9 || eqb c 13) (eqb c 32) h) [
      | inr s ↦ ap f (eqb-true c 32 s) ∙ space
      | inl r ↦ elim (or_cases (eqb c 9) (eqb c 13) r) [
        | inl t ↦ ap f (eqb-true c 9 t) ∙ tab
        | inr e ↦ ap f (eqb-true c 13 e) ∙ return
      ]
    ]

abbrev pub blank : List ℕ → Bool
blank p = list_all is_line_padding p

pub reads_blanks : (bs rest : List ℕ) → blank bs ≡ true → Reads (bs ++ rest) bs rest
reads_blanks [] rest h = reads_none rest
reads_blanks (c ∷ bs) rest h =
    let q = and_parts (is_line_padding c) (blank bs) h in
    Reads-trans (c ∷ (bs ++ rest)) (bs ++ rest) rest (c ∷ []) bs
    (reads_literal c (bs ++ rest) (by_blank (λ b. eqb b 61) false c q.0 refl refl refl))
    (reads_blanks bs rest q.1)

-- a blank is no digit, so an escape that has one stands as it is
pub escape_low : (u c : ℕ) → is_line_padding c ≡ true → escape_value u c ≡ 61 ∷ u ∷ c ∷ []
escape_low u c h = by_high (is_digit u 16) refl
  where
    by_high : (t : Bool) → is_digit u 16 ≡ t → escape_value u c ≡ 61 ∷ u ∷ c ∷ []
    by_high true e = let low : is_digit c 16 ≡ false = by_blank (λ b. is_digit b 16) false c h refl refl refl in rw (e, low) refl
    by_high false e = rw e refl

pub escape_high : (c v : ℕ) → is_line_padding c ≡ true → escape_value c v ≡ 61 ∷ c ∷ v ∷ []
escape_high c v h = let high : is_digit c 16 ≡ false = by_blank (λ b. is_digit b 16) false c h refl refl refl in rw high refl

-- what a read front stands for stands first in the text
value_of-reads : (line given rest : List ℕ) (more : List (List ℕ)) → Reads line given rest → value_of line more ≡ given ++ value_of rest more
value_of-reads line given rest [] r = r.0
value_of-reads line given rest (next ∷ more) r =
    ap (λ v. v ++ (line_break (ends_soft (parts line)) ++ value_of next more)) r.0
    ∙ ap (λ s. (given ++ values (parts rest)) ++ (line_break s ++ value_of next more)) r.1
    ∙ append_assoc given (values (parts rest)) (line_break (ends_soft (parts rest)) ++ value_of next more)

pub robust_goes_on : (p : List ℕ) (b : ℕ) (text given line : List ℕ) → list_all is_text_octet p ≡ true → no_feeds p ≡ true
    → is_text_octet b ≡ true → is_line_padding b ≡ false → eqb b 10 ≡ false
    → Reads (p ++ b ∷ first_of (stripped (kept text))) given line
    → robust (p ++ b ∷ text) ≡ given ++ value_of line (behind (stripped (kept text)))
robust_goes_on p b text given line all none stands pad feed r =
    robust-value (p ++ b ∷ text)
    ∙ ap (λ ls. value_of (first_of ls) (behind ls))
    (ap stripped (kept_all p (b ∷ text) all ∙ ap (λ k. p ++ k) (kept_yes b text stands)) ∙ stripped_goes_on p b (kept text) none pad feed)
    ∙ value_of-reads (p ++ b ∷ first_of (stripped (kept text))) given line (behind (stripped (kept text))) r

pub robust_ends : (p text : List ℕ) → list_all is_text_octet p ≡ true → no_feeds p ≡ true
    → robust (p ++ 10 ∷ text) ≡ values (parts (trim_all p)) ++ (line_break (ends_soft (parts (trim_all p))) ++ robust text)
robust_ends p text all none =
    robust-value (p ++ 10 ∷ text)
    ∙ ap (λ ls. value_of (first_of ls) (behind ls))
    (ap stripped (kept_all p (10 ∷ text) all ∙ ap (λ k. p ++ k) (kept_yes 10 text refl)) ∙ stripped_ends p (kept text) none)
    ∙ ap (λ ls. value_of (trim_all p) ls) (stripped_some (kept text))
    ∙ ap (λ v. values (parts (trim_all p)) ++ (line_break (ends_soft (parts (trim_all p))) ++ v)) (sym (robust-value text))

pub robust_last : (p : List ℕ) → list_all is_text_octet p ≡ true → no_feeds p ≡ true → robust p ≡ values (parts (trim_all p))
robust_last p all none =
    robust-value p
    ∙ ap (λ ls. value_of (first_of ls) (behind ls))
    (ap stripped (ap kept (sym (append-nil p)) ∙ kept_all p [] all ∙ ap (λ k. p ++ k) kept-none ∙ append-nil p) ∙ stripped_last p none)
