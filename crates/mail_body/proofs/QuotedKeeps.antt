-- What is kept of quoted-printable text, and what is written of it, byte by byte.
use Rattle.std.proofs.Common.{◌≡◌, ℕ, ◌+◌, ◌<◌, ◌≤◌, Bool, true, false, cond, not, ◌&&◌, eqb, List, [], ◌∷◌, ◌++◌, length, get_or, take, drop, refl, ap, sym, ◌∙◌, arith, append_assoc, append-nil, subst}
use Rattle.std.specs.List.{suffix_len, list_all}
use Rattle.std.proofs.lemmas.Bool.{eqb-true, eqb-false, and_parts}
use Rattle.std.proofs.lemmas.List.{length-append, take-append-drop, drop_more, take_more, take_all}
use Rattle.std.proofs.lemmas.List.Sums.{suffix_len-le-length}
use Rattle.qp.specs.Text.{is_text_octet, is_line_padding, kept}
use Rattle.qp.specs.Line.{escape_value}
use Rattle.qp.specs.Robust.{robust}
use Rattle.mail_body.specs.declared.quoted.TheConstants.{MOST_BLANKS}
use Rattle.mail_body.specs.declared.quoted.Begun.{Begun}
use Rattle.mail_body.specs.declared.quoted.Begun.TheVariants.{NoEscape, Equals, OneByte}
use Rattle.mail_body.specs.Quoted.{has_run_beyond, has_blank_run, begun_bytes, end_bytes, blanks_needed, is_plain, has_plain, GoesOn, DecodesQuoted}
use Rattle.mail_body.proofs.QuotedLines.{kept_yes, kept_no, kept-append, kept-none, blank}
use Rattle.mail_body.proofs.QuotedSteps.{robust_literal, robust_escape, robust_blank_escape, robust_held, robust_feed, robust_dropped, run_held, run_none, run_plain, suffix-append, plain_tests}

-- a byte that is no blank, where this is kept; `w` is written, and then this is kept
goes_on : (p : List ℕ) (b : ℕ) (q old new w front : List ℕ) → new ≡ old ++ w
    → ((rest : List ℕ) → robust (p ++ b ∷ rest) ≡ w ++ robust (q ++ rest))
    → front ++ q ≡ p ++ b ∷ [] → list_all (λ c. not (is_line_padding c)) q ≡ true → GoesOn p b q old new
goes_on p b q old new w front written value is none = record {
  value = λ rest. ap (λ n. n ++ robust (q ++ rest)) written ∙ append_assoc old w (robust (q ++ rest)) ∙ ap (λ v. old ++ v) (sym (value rest));
  front = front;
  is = is;
  no_blanks = none;
}

-- nothing is kept: the byte is written, or `=` is kept
pub GoesOn-literal : (b : ℕ) (old new : List ℕ) → is_plain b ≡ true → eqb b 61 ≡ false → new ≡ old ++ b ∷ [] → GoesOn [] b [] old new
GoesOn-literal b old new p other written =
    goes_on [] b [] old new (b ∷ []) (b ∷ []) written (λ rest. robust_literal b rest p other) refl refl

pub GoesOn-equals : (old new : List ℕ) → new ≡ old → GoesOn [] 61 (61 ∷ []) old new
GoesOn-equals old new written =
    goes_on [] 61 (61 ∷ []) old new [] [] (written ∙ sym (append-nil old)) (λ rest. refl) refl refl

-- `=` is kept, and a byte comes
pub GoesOn-one : (b : ℕ) (old new : List ℕ) → is_plain b ≡ true → new ≡ old → GoesOn (61 ∷ []) b (61 ∷ b ∷ []) old new
GoesOn-one b old new p written =
    let e : not (is_line_padding b) ≡ true = ap not (plain_tests b p).no_blank in
    goes_on (61 ∷ []) b (61 ∷ b ∷ []) old new [] [] (written ∙ sym (append-nil old)) (λ rest. refl) refl (λ i. e i && true)

pub GoesOn-at : (p p' : List ℕ) (b : ℕ) (q q' old new : List ℕ) → p ≡ p' → q ≡ q' → GoesOn p' b q' old new → GoesOn p b q old new
GoesOn-at p p' b q q' old new e f g =
    let P : List ℕ → Type 0 = λ x. GoesOn x b q old new in
    let Q : List ℕ → Type 0 = λ x. GoesOn p' b x old new in
    subst P (sym e) (subst Q (sym f) g)

-- `=` and a byte are kept, or `=` and a blank: the escape is whole
pub GoesOn-escape : (u b : ℕ) (old new : List ℕ) → is_plain u ≡ true → is_plain b ≡ true → new ≡ old ++ escape_value u b → GoesOn (61 ∷ u ∷ []) b [] old new
GoesOn-escape u b old new pu pb written =
    let t = plain_tests u pu in
    goes_on (61 ∷ u ∷ []) b [] old new (escape_value u b) (61 ∷ u ∷ b ∷ []) written (λ rest. robust_escape u b rest t.stands t.no_feed pb) refl refl

pub GoesOn-blank_escape : (c b : ℕ) (old new : List ℕ) → is_line_padding c ≡ true → is_plain b ≡ true → new ≡ old ++ 61 ∷ c ∷ b ∷ [] → GoesOn (61 ∷ c ∷ []) b [] old new
GoesOn-blank_escape c b old new h p written =
    goes_on (61 ∷ c ∷ []) b [] old new (61 ∷ c ∷ b ∷ []) (61 ∷ c ∷ b ∷ []) written (λ rest. robust_blank_escape c b rest h p) refl refl

pub GoesOn-one_blank : (bs : List ℕ) (b : ℕ) (old new : List ℕ) → length bs ≡ 1 → blank bs ≡ true → is_plain b ≡ true → new ≡ (old ++ (61 ∷ bs)) ++ b ∷ [] → GoesOn (61 ∷ bs) b [] old new
GoesOn-one_blank [] b old new n h p written = absurd (omega arith)
GoesOn-one_blank (c ∷ d ∷ bs) b old new n h p written = absurd (omega arith)
GoesOn-one_blank (c ∷ []) b old new n h p written =
    let q = and_parts (is_line_padding c) true h in
    GoesOn-blank_escape c b old new q.0 p (written ∙ append_assoc old (61 ∷ c ∷ []) (b ∷ []))

-- too few blanks are kept only where one stands behind `=`
pub too_few : (g : Begun) (n : ℕ) → ¬ (n ≡ 0) → n < blanks_needed g → (g ≡ Equals) × (n ≡ 1)
too_few NoEscape n some few = absurd (omega arith)
too_few Equals n some few = (refl, omega arith)
too_few (OneByte b) n some few = absurd (some (omega arith))

-- what is kept is written, and the byte comes behind it
pub GoesOn-held : (g : Begun) (bs : List ℕ) (b : ℕ) (q old mid new : List ℕ) → has_plain g ≡ true → blank bs ≡ true → blanks_needed g ≤ length bs → is_plain b ≡ true
    → mid ≡ old ++ (begun_bytes g ++ bs) → GoesOn [] b q mid new → GoesOn (begun_bytes g ++ bs) b q old new
GoesOn-held g bs b q old mid new p h n plain written g1 =
    let k = begun_bytes g ++ bs in
    record {
      value = λ rest. g1.value rest ∙ ap (λ m. m ++ robust (b ∷ rest)) written ∙ append_assoc old k (robust (b ∷ rest))
          ∙ ap (λ v. old ++ v) (sym (robust_held g bs b rest p h n plain));
      front = k ++ g1.front;
      is = append_assoc k g1.front q ∙ ap (λ f. k ++ f) g1.is;
      no_blanks = g1.no_blanks;
    }

-- the line ends
pub GoesOn-feed : (g : Begun) (bs old new : List ℕ) → has_plain g ≡ true → blank bs ≡ true → new ≡ old ++ end_bytes g → GoesOn (begun_bytes g ++ bs) 10 [] old new
GoesOn-feed g bs old new p h written =
    goes_on (begun_bytes g ++ bs) 10 [] old new (end_bytes g) ((begun_bytes g ++ bs) ++ 10 ∷ []) written (λ rest. robust_feed g bs rest p h)
    (append-nil ((begun_bytes g ++ bs) ++ 10 ∷ [])) refl

-- one byte that may stand in text
kept_one : (b : ℕ) → is_text_octet b ≡ true → kept (b ∷ []) ≡ b ∷ []
kept_one b h = kept_yes b [] h ∙ ap (λ k. b ∷ k) kept-none

kept_dropped : (b : ℕ) → is_text_octet b ≡ false → kept (b ∷ []) ≡ []
kept_dropped b h = kept_no b [] h ∙ kept-none

no_blank_last : (p : List ℕ) (b : ℕ) → is_line_padding b ≡ false → suffix_len is_line_padding (p ++ b ∷ []) ≡ 0
no_blank_last p b h =
    suffix-append p (b ∷ [])
    ∙ ap (λ t. cond (eqb (cond t 1 0) 1) (1 + suffix_len is_line_padding p) (cond t 1 0)) h

pub DecodesQuoted-goes_on : (g : Begun) (bs : List ℕ) (b : ℕ) (q old new : List ℕ) → has_plain g ≡ true → blank bs ≡ true → length bs ≤ MOST_BLANKS
    → is_text_octet b ≡ true → is_line_padding b ≡ false
    → GoesOn (begun_bytes g ++ bs) b q old new → DecodesQuoted (begun_bytes g ++ bs) (b ∷ []) q old new
DecodesQuoted-goes_on g bs b q old new p h n stands pad go =
    let k = begun_bytes g ++ bs in
    let one = kept_one b stands in
    record {
      value = go.value;
      keeps = record {
        front = go.front;
        is = go.is ∙ sym (ap (λ t. k ++ t) one);
        blanks = let none : suffix_len is_line_padding (k ++ kept (b ∷ [])) ≡ 0 = ap (λ t. suffix_len is_line_padding (k ++ t)) one ∙ no_blank_last k b pad in omega (arith, none);
        runs = λ rest. ap (λ t. has_run_beyond MOST_BLANKS (k ++ (t ++ rest))) one ∙ run_held MOST_BLANKS g bs b rest p h n pad ∙ sym (run_plain MOST_BLANKS q rest go.no_blanks);
      };
    }

pub DecodesQuoted-feed : (g : Begun) (bs : List ℕ) (b : ℕ) (q old new : List ℕ) → has_plain g ≡ true → blank bs ≡ true → length bs ≤ MOST_BLANKS
    → b ≡ 10 → GoesOn (begun_bytes g ++ bs) 10 q old new → DecodesQuoted (begun_bytes g ++ bs) (b ∷ []) q old new
DecodesQuoted-feed g bs b q old new p h n is go =
    let P : ℕ → Type 0 = λ x. DecodesQuoted (begun_bytes g ++ bs) (x ∷ []) q old new in
    subst P (sym is) (DecodesQuoted-goes_on g bs 10 q old new p h n refl refl go)

pub DecodesQuoted-blank : (p : List ℕ) (b : ℕ) (q old new : List ℕ) → is_text_octet b ≡ true → q ≡ p ++ b ∷ [] → new ≡ old → DecodesQuoted p (b ∷ []) q old new
DecodesQuoted-blank p b q old new stands is written =
    let one = kept_one b stands in
    record {
      value = λ rest. ap (λ n. n ++ robust (q ++ rest)) written ∙ ap (λ t. old ++ robust (t ++ rest)) is ∙ ap (λ t. old ++ robust t) (append_assoc p (b ∷ []) rest);
      keeps = record {
        front = [];
        is = is ∙ sym (ap (λ t. p ++ t) one);
        blanks = let same : length q ≡ length (p ++ kept (b ∷ [])) = ap length (is ∙ sym (ap (λ t. p ++ t) one)) in omega (arith, same, suffix_len-le-length is_line_padding (p ++ kept (b ∷ [])));
        runs = λ rest. ap (λ t. has_run_beyond MOST_BLANKS (p ++ (t ++ rest))) one ∙ ap (has_run_beyond MOST_BLANKS) (sym (append_assoc p (b ∷ []) rest)) ∙ ap (λ t. has_run_beyond MOST_BLANKS (t ++ rest)) (sym is);
      };
    }

pub DecodesQuoted-dropped : (p : List ℕ) (b : ℕ) (old : List ℕ) → is_text_octet b ≡ false → DecodesQuoted p (b ∷ []) p old old
DecodesQuoted-dropped p b old lost =
    let none = kept_dropped b lost in
    let same : p ++ kept (b ∷ []) ≡ p = ap (λ t. p ++ t) none ∙ append-nil p in
    record {
      value = λ rest. ap (λ v. old ++ v) (sym (robust_dropped p b rest lost));
      keeps = record {
        front = [];
        is = sym same;
        blanks = let e = ap (suffix_len is_line_padding) same in omega (arith, e, suffix_len-le-length is_line_padding p);
        runs = λ rest. ap (λ t. has_run_beyond MOST_BLANKS (p ++ (t ++ rest))) none;
      };
    }

-- nothing, and one piece behind another
pub DecodesQuoted-none : (p old : List ℕ) → DecodesQuoted p [] p old old
DecodesQuoted-none p old =
    let same : p ++ kept [] ≡ p = ap (λ t. p ++ t) kept-none ∙ append-nil p in
    record {
      value = λ rest. refl;
      keeps = record {
        front = [];
        is = sym same;
        blanks = let e = ap (suffix_len is_line_padding) same in omega (arith, e, suffix_len-le-length is_line_padding p);
        runs = λ rest. ap (λ t. has_run_beyond MOST_BLANKS (p ++ (t ++ rest))) kept-none;
      };
    }

-- blanks that stand last: those of the whole are at most what is kept
last_blanks : (f p x q g : List ℕ) → suffix_len is_line_padding (f ++ p) ≤ length p → g ++ q ≡ p ++ x → suffix_len is_line_padding (p ++ x) ≤ length q
    → suffix_len is_line_padding (f ++ (p ++ x)) ≤ length q
last_blanks f p x q g few is more = by_all (eqb (suffix_len is_line_padding (p ++ x)) (length (p ++ x))) refl
  where
    by_all : (t : Bool) → eqb (suffix_len is_line_padding (p ++ x)) (length (p ++ x)) ≡ t → suffix_len is_line_padding (f ++ (p ++ x)) ≤ length q
    by_all false e =
        let one = suffix-append f (p ++ x) ∙ ap (λ t. cond t (length (p ++ x) + suffix_len is_line_padding f) (suffix_len is_line_padding (p ++ x))) e in
        omega (arith, one)
    by_all true e =
        let whole = eqb-true (suffix_len is_line_padding (p ++ x)) (length (p ++ x)) e in
        let one = suffix-append f (p ++ x) ∙ ap (λ t. cond t (length (p ++ x) + suffix_len is_line_padding f) (suffix_len is_line_padding (p ++ x))) e in
        let all = whole_front (eqb (suffix_len is_line_padding p) (length p)) refl in
        let two = suffix-append f p in
        let three : suffix_len is_line_padding (f ++ p) ≡ length p + suffix_len is_line_padding f = suffix-append f p ∙ ap (λ t. cond t (length p + suffix_len is_line_padding f) (suffix_len is_line_padding p)) all in
        omega (arith, one, whole, three)
      where
        whole_front : (t : Bool) → eqb (suffix_len is_line_padding p) (length p) ≡ t → eqb (suffix_len is_line_padding p) (length p) ≡ true
        whole_front true h = h
        whole_front false h = absurd (not_whole (eqb (suffix_len is_line_padding x) (length x)) refl)
          where
            not_whole : (t : Bool) → eqb (suffix_len is_line_padding x) (length x) ≡ t → ⊥
            not_whole true g =
                let some = eqb-false (suffix_len is_line_padding p) (length p) h in
                let all = eqb-true (suffix_len is_line_padding (p ++ x)) (length (p ++ x)) e in
                let sum = suffix-append p x ∙ ap (λ t. cond t (length x + suffix_len is_line_padding p) (suffix_len is_line_padding x)) g in
                some (omega (arith, all, sum, length-append p x))
            not_whole false g =
                let some = eqb-false (suffix_len is_line_padding x) (length x) g in
                let all = eqb-true (suffix_len is_line_padding (p ++ x)) (length (p ++ x)) e in
                let sum = suffix-append p x ∙ ap (λ t. cond t (length x + suffix_len is_line_padding p) (suffix_len is_line_padding x)) g in
                let most = suffix_len-le-length is_line_padding x in
                some (omega (arith, all, sum, length-append p x, most))

pub DecodesQuoted-more : (p x q y r old mid new : List ℕ) → DecodesQuoted p x q old mid → DecodesQuoted q y r mid new → DecodesQuoted p (x ++ y) r old new
DecodesQuoted-more p x q y r old mid new a b =
    let joined : p ++ kept (x ++ y) ≡ (p ++ kept x) ++ kept y = ap (λ t. p ++ t) (kept-append x y) ∙ sym (append_assoc p (kept x) (kept y)) in
    let through : p ++ kept (x ++ y) ≡ a.keeps.front ++ (q ++ kept y) = joined ∙ ap (λ t. t ++ kept y) (sym a.keeps.is) ∙ append_assoc a.keeps.front q (kept y) in
    record {
      value = λ rest. b.value rest ∙ a.value (y ++ rest) ∙ ap (λ t. old ++ robust (p ++ t)) (sym (append_assoc x y rest));
      keeps = record {
        front = a.keeps.front ++ b.keeps.front;
        is = append_assoc a.keeps.front b.keeps.front r ∙ ap (λ t. a.keeps.front ++ t) b.keeps.is ∙ sym through;
        blanks =
            let few : suffix_len is_line_padding (a.keeps.front ++ q) ≤ length q = let e = ap (suffix_len is_line_padding) a.keeps.is in omega (arith, e, a.keeps.blanks) in
            let last = last_blanks a.keeps.front q (kept y) r b.keeps.front few b.keeps.is b.keeps.blanks in
            let e = ap (suffix_len is_line_padding) through in omega (arith, e, last);
        runs = λ rest.
            ap (λ t. has_run_beyond MOST_BLANKS (p ++ t)) (ap (λ t. t ++ rest) (kept-append x y) ∙ append_assoc (kept x) (kept y) rest)
            ∙ a.keeps.runs (kept y ++ rest) ∙ b.keeps.runs rest;
      };
    }

-- the same over a list by index
pub DecodesQuoted-next : (p piece q r old mid new : List ℕ) (i : ℕ) → i < length piece → DecodesQuoted p (take i piece) q old mid
    → DecodesQuoted q (get_or piece i 0 ∷ []) r mid new → DecodesQuoted p (take (i + 1) piece) r old new
DecodesQuoted-next p piece q r old mid new i within a b =
    let P : List ℕ → Type 0 = λ x. DecodesQuoted p x r old new in
    subst P (sym (take_more piece i 0 within)) (DecodesQuoted-more p (take i piece) q (get_or piece i 0 ∷ []) r old mid new a b)

pub DecodesQuoted-read : (p piece q old new : List ℕ) (i : ℕ) → length piece ≤ i → DecodesQuoted p (take i piece) q old new → DecodesQuoted p piece q old new
DecodesQuoted-read p piece q old new i whole d =
    let P : List ℕ → Type 0 = λ x. DecodesQuoted p x q old new in
    subst P (take_all i piece whole) d

pub run_found : (p piece q old mid : List ℕ) (i : ℕ) → i < length piece → DecodesQuoted p (take i piece) q old mid
    → ((rest : List ℕ) → has_blank_run (q ++ kept (get_or piece i 0 ∷ rest)) ≡ true) → has_blank_run (p ++ kept piece) ≡ true
run_found p piece q old mid i within a found =
    let rest = drop (i + 1) piece in
    ap (λ t. has_blank_run (p ++ kept t)) (sym (take-append-drop i piece) ∙ ap (λ t. take i piece ++ t) (drop_more piece i 0 within))
    ∙ ap (λ t. has_blank_run (p ++ t)) (kept-append (take i piece) (get_or piece i 0 ∷ rest))
    ∙ a.keeps.runs (kept (get_or piece i 0 ∷ rest))
    ∙ found rest

-- where what is kept has no long run, what was read has none
pub run_free : (p piece : List ℕ) (g : Begun) (bs old new : List ℕ) → DecodesQuoted p piece (begun_bytes g ++ bs) old new
    → has_plain g ≡ true → blank bs ≡ true → length bs ≤ MOST_BLANKS → has_blank_run (p ++ kept piece) ≡ false
run_free p piece g bs old new d plain h few =
    ap (λ t. has_blank_run (p ++ t)) (sym (append-nil (kept piece)))
    ∙ d.keeps.runs []
    ∙ ap has_blank_run (append-nil (begun_bytes g ++ bs))
    ∙ run_none MOST_BLANKS g bs plain h few
