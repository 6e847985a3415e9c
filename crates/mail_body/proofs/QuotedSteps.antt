-- What one byte makes of what is kept of a line of quoted-printable text.
use Rattle.std.proofs.Common.{◌≡◌, ℕ, ◌+◌, ◌<◌, ◌≤◌, Bool, true, false, cond, not, ◌||◌, ◌&&◌, eqb, nat_lt, List, [], ◌∷◌, ◌++◌, length, reverse, refl, ap, sym, ◌∙◌, arith, append_assoc}
use Rattle.std.specs.List.{suffix_len, prefix_len, list_all}
use Rattle.std.proofs.lemmas.Bool.{and_parts, not-true, le-ltb, lt-ltb}
use Rattle.std.proofs.lemmas.List.{reverse-append, length-reverse}
use Rattle.std.proofs.lemmas.List.Folds.{prefix_len-append}
use Rattle.qp.specs.Text.{is_text_octet, is_line_padding, kept}
use Rattle.qp.specs.Line.{parts, values, ends_soft, escape_value}
use Rattle.qp.specs.Robust.{robust}
use Rattle.mail_body.specs.declared.quoted.Begun.{Begun}
use Rattle.mail_body.specs.declared.quoted.Begun.TheVariants.{NoEscape, Equals, OneByte}
use Rattle.mail_body.specs.Quoted.{has_run_beyond, begun_bytes, last_bytes, end_bytes, blanks_needed, is_plain, has_plain}
use Rattle.mail_body.proofs.QuotedLines.{stripped, first_of, behind, kept_no, kept-append, value_of, robust-value, no_feeds, trim_onto, trim_all, Reads, reads_none, reads_literal, reads_escape, reads_blanks, Reads-trans, by_blank, blank, escape_low, escape_high, robust_goes_on, robust_ends, robust_last, line_break}

-- the tests of a plain byte
pub record PlainTests (b : ℕ) : Type 0 where
  pub stands : is_text_octet b ≡ true
  pub no_blank : is_line_padding b ≡ false
  pub no_feed : eqb b 10 ≡ false

pub plain_tests : (b : ℕ) → is_plain b ≡ true → PlainTests b
plain_tests b h =
    let p = and_parts (is_text_octet b) (not (is_line_padding b) && not (eqb b 10)) h in
    let q = and_parts (not (is_line_padding b)) (not (eqb b 10)) p.1 in
    record { stands = p.0; no_blank = not-true (is_line_padding b) q.0; no_feed = not-true (eqb b 10) q.1 }

pub is_plain-from : (b : ℕ) → is_text_octet b ≡ true → is_line_padding b ≡ false → eqb b 10 ≡ false → is_plain b ≡ true
is_plain-from b t p f = rw (t, p, f) refl

-- what is kept may stand in text and has no LF
blanks_stand : (bs : List ℕ) → blank bs ≡ true → list_all is_text_octet bs ≡ true
blanks_stand [] h = refl
blanks_stand (c ∷ bs) h =
    let q = and_parts (is_line_padding c) (blank bs) h in
    let e = by_blank is_text_octet true c q.0 refl refl refl in
    let ih = blanks_stand bs q.1 in
    (λ i. e i && ih i)

blanks_no_feed : (bs : List ℕ) → blank bs ≡ true → no_feeds bs ≡ true
blanks_no_feed [] h = refl
blanks_no_feed (c ∷ bs) h =
    let q = and_parts (is_line_padding c) (blank bs) h in
    let e = by_blank (λ b. not (eqb b 10)) true c q.0 refl refl refl in
    let ih = blanks_no_feed bs q.1 in
    (λ i. e i && ih i)

pub held_stand : (g : Begun) (bs : List ℕ) → has_plain g ≡ true → blank bs ≡ true → list_all is_text_octet (begun_bytes g ++ bs) ≡ true
held_stand NoEscape bs p h = blanks_stand bs h
held_stand Equals bs p h = blanks_stand bs h
held_stand (OneByte b) bs p h =
    let t = plain_tests b p in
    let e = t.stands in
    let ih = blanks_stand bs h in
    (λ i. true && (e i && ih i))

pub held_no_feed : (g : Begun) (bs : List ℕ) → has_plain g ≡ true → blank bs ≡ true → no_feeds (begun_bytes g ++ bs) ≡ true
held_no_feed NoEscape bs p h = blanks_no_feed bs h
held_no_feed Equals bs p h = blanks_no_feed bs h
held_no_feed (OneByte b) bs p h =
    let t = plain_tests b p in
    let e : not (eqb b 10) ≡ true = ap not t.no_feed in
    let ih = blanks_no_feed bs h in
    (λ i. true && (e i && ih i))

-- a plain byte where nothing is kept
pub robust_literal : (b : ℕ) (rest : List ℕ) → is_plain b ≡ true → eqb b 61 ≡ false → robust (b ∷ rest) ≡ b ∷ robust rest
robust_literal b rest p other =
    let t = plain_tests b p in
    let line = first_of (stripped (kept rest)) in
    robust_goes_on [] b rest (b ∷ []) line refl refl t.stands t.no_blank t.no_feed (reads_literal b line other)
    ∙ ap (λ v. b ∷ v) (sym (robust-value rest))

-- `=` and two bytes, the first of which may be a blank
pub robust_escape : (u b : ℕ) (rest : List ℕ) → is_text_octet u ≡ true → eqb u 10 ≡ false → is_plain b ≡ true
    → robust (61 ∷ u ∷ b ∷ rest) ≡ escape_value u b ++ robust rest
robust_escape u b rest stands feed p =
    let t = plain_tests b p in
    let line = first_of (stripped (kept rest)) in
    let none : not (eqb u 10) ≡ true = ap not feed in
    robust_goes_on (61 ∷ u ∷ []) b rest (escape_value u b) line (λ i. true && (stands i && true)) (λ i. true && (none i && true))
    t.stands t.no_blank t.no_feed (reads_escape u b line)
    ∙ ap (λ v. escape_value u b ++ v) (sym (robust-value rest))

pub robust_blank_escape : (c b : ℕ) (rest : List ℕ) → is_line_padding c ≡ true → is_plain b ≡ true
    → robust (61 ∷ c ∷ b ∷ rest) ≡ 61 ∷ c ∷ b ∷ robust rest
robust_blank_escape c b rest h p =
    robust_escape c b rest (by_blank is_text_octet true c h refl refl refl) (by_blank (λ x. eqb x 10) false c h refl refl refl) p
    ∙ ap (λ v. v ++ robust rest) (escape_high c b h)

reads_held : (g : Begun) (bs line : List ℕ) → blank bs ≡ true → blanks_needed g ≤ length bs → Reads ((begun_bytes g ++ bs) ++ line) (begun_bytes g ++ bs) line
reads_held NoEscape bs line h n = reads_blanks bs line h
reads_held Equals [] line h n = absurd (omega arith)
reads_held Equals (c ∷ []) line h n = absurd (omega arith)
reads_held Equals (c ∷ d ∷ bs) line h n =
    let q = and_parts (is_line_padding c) (blank (d ∷ bs)) h in
    let r = and_parts (is_line_padding d) (blank bs) q.1 in
    let e = reads_escape c d (bs ++ line) in
    let w : Reads (61 ∷ c ∷ d ∷ (bs ++ line)) (61 ∷ c ∷ d ∷ []) (bs ++ line) = (e.0 ∙ ap (λ v. v ++ values (parts (bs ++ line))) (escape_low c d r.0), e.1) in
    Reads-trans (61 ∷ c ∷ d ∷ (bs ++ line)) (bs ++ line) line (61 ∷ c ∷ d ∷ []) bs w (reads_blanks bs line r.1)
reads_held (OneByte u) [] line h n = absurd (omega arith)
reads_held (OneByte u) (c ∷ bs) line h n =
    let q = and_parts (is_line_padding c) (blank bs) h in
    let e = reads_escape u c (bs ++ line) in
    let w : Reads (61 ∷ u ∷ c ∷ (bs ++ line)) (61 ∷ u ∷ c ∷ []) (bs ++ line) = (e.0 ∙ ap (λ v. v ++ values (parts (bs ++ line))) (escape_low u c q.0), e.1) in
    Reads-trans (61 ∷ u ∷ c ∷ (bs ++ line)) (bs ++ line) line (61 ∷ u ∷ c ∷ []) bs w (reads_blanks bs line q.1)

-- what is kept stands as it is, and the line goes on with a byte
pub robust_held : (g : Begun) (bs : List ℕ) (b : ℕ) (rest : List ℕ) → has_plain g ≡ true → blank bs ≡ true → blanks_needed g ≤ length bs → is_plain b ≡ true
    → robust ((begun_bytes g ++ bs) ++ b ∷ rest) ≡ (begun_bytes g ++ bs) ++ robust (b ∷ rest)
robust_held g bs b rest p h n plain =
    let t = plain_tests b plain in
    let line = b ∷ first_of (stripped (kept rest)) in
    robust_goes_on (begun_bytes g ++ bs) b rest (begun_bytes g ++ bs) line (held_stand g bs p h) (held_no_feed g bs p h) t.stands t.no_blank t.no_feed
    (reads_held g bs line h n)
    ∙ ap (λ v. (begun_bytes g ++ bs) ++ v) (sym (robust_goes_on [] b rest [] line refl refl t.stands t.no_blank t.no_feed (reads_none line)))

-- the line ends
trim_blanks : (bs : List ℕ) → blank bs ≡ true → trim_all bs ≡ []
trim_blanks [] h = refl
trim_blanks (c ∷ bs) h =
    let q = and_parts (is_line_padding c) (blank bs) h in
    ap (trim_onto c) (trim_blanks bs q.1) ∙ ap (λ p. cond p [] (c ∷ [])) q.0

trim_held : (g : Begun) (bs : List ℕ) → has_plain g ≡ true → blank bs ≡ true → trim_all (begun_bytes g ++ bs) ≡ begun_bytes g
trim_held NoEscape bs p h = trim_blanks bs h
trim_held Equals bs p h = ap (λ t. trim_onto 61 t) (trim_blanks bs h)
trim_held (OneByte b) bs p h =
    let t = plain_tests b p in
    ap (λ t. trim_onto 61 (trim_onto b t)) (trim_blanks bs h) ∙ ap (λ p. trim_onto 61 (cond p [] (b ∷ []))) t.no_blank

begun_last : (g : Begun) → values (parts (begun_bytes g)) ≡ last_bytes g
unfolding values parts
begun_last NoEscape = refl
begun_last Equals = refl
begun_last (OneByte b) = refl

begun_end : (g : Begun) → values (parts (begun_bytes g)) ++ line_break (ends_soft (parts (begun_bytes g))) ≡ end_bytes g
unfolding values parts ends_soft
begun_end NoEscape = refl
begun_end Equals = refl
begun_end (OneByte b) = refl

pub robust_feed : (g : Begun) (bs rest : List ℕ) → has_plain g ≡ true → blank bs ≡ true
    → robust ((begun_bytes g ++ bs) ++ 10 ∷ rest) ≡ end_bytes g ++ robust rest
robust_feed g bs rest p h =
    robust_ends (begun_bytes g ++ bs) rest (held_stand g bs p h) (held_no_feed g bs p h)
    ∙ ap (λ l. values (parts l) ++ (line_break (ends_soft (parts l)) ++ robust rest)) (trim_held g bs p h)
    ∙ sym (append_assoc (values (parts (begun_bytes g))) (line_break (ends_soft (parts (begun_bytes g)))) (robust rest))
    ∙ ap (λ v. v ++ robust rest) (begun_end g)

pub robust_end : (g : Begun) (bs : List ℕ) → has_plain g ≡ true → blank bs ≡ true → robust (begun_bytes g ++ bs) ≡ last_bytes g
robust_end g bs p h =
    robust_last (begun_bytes g ++ bs) (held_stand g bs p h) (held_no_feed g bs p h)
    ∙ ap (λ l. values (parts l)) (trim_held g bs p h)
    ∙ begun_last g

-- a byte that may not stand in text
pub robust_dropped : (p : List ℕ) (b : ℕ) (rest : List ℕ) → is_text_octet b ≡ false → robust (p ++ b ∷ rest) ≡ robust (p ++ rest)
robust_dropped p b rest h =
    robust-value (p ++ b ∷ rest)
    ∙ ap (λ t. value_of (first_of (stripped t)) (behind (stripped t)))
    (kept-append p (b ∷ rest) ∙ ap (λ k. kept p ++ k) (kept_no b rest h) ∙ sym (kept-append p rest))
    ∙ sym (robust-value (p ++ rest))

-- runs of blanks
prefix_blanks : (bs : List ℕ) (b : ℕ) (rest : List ℕ) → blank bs ≡ true → prefix_len is_line_padding (bs ++ b ∷ rest) ≡ length bs + prefix_len is_line_padding (b ∷ rest)
prefix_blanks [] b rest h = omega arith
prefix_blanks (c ∷ bs) b rest h =
    let q = and_parts (is_line_padding c) (blank bs) h in
    let ih = prefix_blanks bs b rest q.1 in
    ap (λ t. cond t (1 + prefix_len is_line_padding (bs ++ b ∷ rest)) 0) q.0 ∙ omega (arith, ih)

run_over : (most : ℕ) (bs : List ℕ) (b : ℕ) (rest : List ℕ) → blank bs ≡ true → length bs ≤ most → is_line_padding b ≡ false
    → has_run_beyond most (bs ++ b ∷ rest) ≡ has_run_beyond most rest
unfolding has_run_beyond
run_over most [] b rest h n other =
    ap (λ t. nat_lt most (cond t (1 + prefix_len is_line_padding rest) 0) || has_run_beyond most rest) other
    ∙ ap (λ t. t || has_run_beyond most rest) (le-ltb most 0 (omega arith))
run_over most (c ∷ bs) b rest h n other =
    let q = and_parts (is_line_padding c) (blank bs) h in
    let few : prefix_len is_line_padding (b ∷ rest) ≡ 0 = ap (λ t. cond t (1 + prefix_len is_line_padding rest) 0) other in
    let count = prefix_blanks (c ∷ bs) b rest h in
    ap (λ t. t || has_run_beyond most (bs ++ b ∷ rest)) (le-ltb most (prefix_len is_line_padding (c ∷ bs ++ b ∷ rest)) (omega (arith, few, count)))
    ∙ run_over most bs b rest q.1 (omega arith) other

run_here : (most : ℕ) (x : ℕ) (xs : List ℕ) → most < prefix_len is_line_padding (x ∷ xs) → has_run_beyond most (x ∷ xs) ≡ true
unfolding has_run_beyond
run_here most x xs h = ap (λ t. t || has_run_beyond most xs) (lt-ltb most (prefix_len is_line_padding (x ∷ xs)) h)

run_full : (most : ℕ) (bs : List ℕ) (b : ℕ) (rest : List ℕ) → blank bs ≡ true → length bs ≡ most → is_line_padding b ≡ true
    → has_run_beyond most (bs ++ b ∷ rest) ≡ true
run_full most [] b rest h n here =
    let count : prefix_len is_line_padding (b ∷ rest) ≡ 1 + prefix_len is_line_padding rest = ap (λ t. cond t (1 + prefix_len is_line_padding rest) 0) here in
    run_here most b rest (omega (arith, count))
run_full most (c ∷ bs) b rest h n here =
    let count = prefix_blanks (c ∷ bs) b rest h in
    let more : prefix_len is_line_padding (b ∷ rest) ≡ 1 + prefix_len is_line_padding rest = ap (λ t. cond t (1 + prefix_len is_line_padding rest) 0) here in
    run_here most c (bs ++ b ∷ rest) (omega (arith, count, more))

run_begun : (most : ℕ) (g : Begun) (x : List ℕ) → has_plain g ≡ true → has_run_beyond most (begun_bytes g ++ x) ≡ has_run_beyond most x
run_begun most NoEscape x p = refl
run_begun most Equals x p = run_over most [] 61 x refl (omega arith) refl
run_begun most (OneByte b) x p = run_over most [] 61 (b ∷ x) refl (omega arith) refl ∙ run_over most [] b x refl (omega arith) (plain_tests b p).no_blank

pub run_plain : (most : ℕ) (q rest : List ℕ) → list_all (λ b. not (is_line_padding b)) q ≡ true → has_run_beyond most (q ++ rest) ≡ has_run_beyond most rest
run_plain most [] rest h = refl
run_plain most (b ∷ q) rest h =
    let p = and_parts (not (is_line_padding b)) (list_all (λ b. not (is_line_padding b)) q) h in
    run_over most [] b (q ++ rest) refl (omega arith) (not-true (is_line_padding b) p.0) ∙ run_plain most q rest p.1

pub run_held : (most : ℕ) (g : Begun) (bs : List ℕ) (b : ℕ) (rest : List ℕ) → has_plain g ≡ true → blank bs ≡ true → length bs ≤ most → is_line_padding b ≡ false
    → has_run_beyond most ((begun_bytes g ++ bs) ++ b ∷ rest) ≡ has_run_beyond most rest
run_held most g bs b rest p h n other =
    ap (has_run_beyond most) (append_assoc (begun_bytes g) bs (b ∷ rest)) ∙ run_begun most g (bs ++ b ∷ rest) p ∙ run_over most bs b rest h n other

pub run_held_full : (most : ℕ) (g : Begun) (bs : List ℕ) (b : ℕ) (rest : List ℕ) → has_plain g ≡ true → blank bs ≡ true → length bs ≡ most → is_line_padding b ≡ true
    → has_run_beyond most ((begun_bytes g ++ bs) ++ b ∷ rest) ≡ true
run_held_full most g bs b rest p h n here =
    ap (has_run_beyond most) (append_assoc (begun_bytes g) bs (b ∷ rest)) ∙ run_begun most g (bs ++ b ∷ rest) p ∙ run_full most bs b rest h n here

run_blanks : (most : ℕ) (bs : List ℕ) → blank bs ≡ true → length bs ≤ most → has_run_beyond most bs ≡ false
unfolding has_run_beyond
run_blanks most [] h n = refl
run_blanks most (c ∷ bs) h n =
    let q = and_parts (is_line_padding c) (blank bs) h in
    ap (λ t. t || has_run_beyond most bs) (le-ltb most (prefix_len is_line_padding (c ∷ bs)) (omega (arith, prefix_len-le (c ∷ bs))))
    ∙ run_blanks most bs q.1 (omega arith)
  where
    prefix_len-le : (xs : List ℕ) → prefix_len is_line_padding xs ≤ length xs
    prefix_len-le [] = omega arith
    prefix_len-le (x ∷ xs) = by_test (is_line_padding x) (prefix_len-le xs)
      where
        by_test : (t : Bool) → prefix_len is_line_padding xs ≤ length xs → cond t (1 + prefix_len is_line_padding xs) 0 ≤ length (x ∷ xs)
        by_test true ih = omega arith
        by_test false ih = omega arith

-- what is kept has no such run
pub run_none : (most : ℕ) (g : Begun) (bs : List ℕ) → has_plain g ≡ true → blank bs ≡ true → length bs ≤ most → has_run_beyond most (begun_bytes g ++ bs) ≡ false
run_none most g bs p h n = run_begun most g bs p ∙ run_blanks most bs h n

-- blanks at the end of joined lists
pub suffix-append : (xs ys : List ℕ) → suffix_len is_line_padding (xs ++ ys)
    ≡ cond (eqb (suffix_len is_line_padding ys) (length ys)) (length ys + suffix_len is_line_padding xs) (suffix_len is_line_padding ys)
suffix-append xs ys =
    ap (prefix_len is_line_padding) (reverse-append xs ys)
    ∙ prefix_len-append is_line_padding (reverse ys) (reverse xs)
    ∙ ap (λ n. cond (eqb (suffix_len is_line_padding ys) n) (n + suffix_len is_line_padding xs) (suffix_len is_line_padding ys)) (length-reverse ys)
