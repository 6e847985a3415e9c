-- The frame at a place, field by field, and how it is spelled.
use Rattle.std.proofs.Common.{◌≡◌, ℕ, zero, suc, ◌+◌, ◌-◌, ◌<◌, ◌≤◌, Bool, true, false, ◌==◌, ◌&&◌, ◌||◌, nat_eq, nat_lt, cond, Option, Some, None, List, [], ◌∷◌, ◌++◌, length, take, drop, refl, sym, ap, ◌∙◌, arith, append_assoc}
use Rattle.std.specs.Cmp.Lexicographic.{pointwise}
use Rattle.std.specs.List.{before_first, after_first, position_or_len}
use Rattle.std.specs.Option.{option_map}
use Rattle.std.specs.Prelude.{option_and_then, slice_index}
use Rattle.std.proofs.Math.Bool.{and-false}
use Rattle.std.proofs.Math.Nat.{lt_irrefl}
use Rattle.std.proofs.lemmas.Bool.{and_parts, and_from, eqb-true, ltb-true, lt-ltb, false_from_ne_true, cond-true, cond-false}
use Rattle.std.proofs.lemmas.List.{take_at, take_all, length-append, length-take-le, drop_at, nil_from_length}
use Rattle.people.proofs.Bytes.{first-place, no-place}
use Rattle.std.proofs.lemmas.List.Sums.{split_at_first, passes_at_first}
use Rattle.people.specs.Frame.{Frame, frame_spelling, is_charset, is_question_mark, is_b, is_q, begins_in, is_text, Cut, cut_at_end, cut_text, cut_charset, cut_letter, behind_start, with_text, with_letter, with_charset, frame_at}

-- what gives something, where a test and then a list are asked
some-when : {A : Type 0} (t : Bool) (a b : A) → cond t (Some a) None ≡ Some b → (t ≡ true) × (a ≡ b)
some-when true a b e = (refl, cc)
some-when false a b e = absurd (cc)

-- the fields one behind another
pub start-spells : (s inside : List ℕ) → behind_start s ≡ Some inside → s ≡ 61 ∷ 63 ∷ inside
unfolding behind_start
start-spells [] inside e = absurd (cc)
start-spells (b ∷ []) inside e = absurd (cc)
start-spells (b ∷ c ∷ rest) inside e =
    let p = some-when (b == 61 && c == 63) rest inside e in
    let q = and_parts (b == 61) (c == 63) p.0 in
    λ i. eqb-true b 61 q.0 i ∷ eqb-true c 63 q.1 i ∷ p.1 i

within : (xs : List ℕ) (n : ℕ) → length (take n xs) < length xs → n < length xs
within [] n h = absurd (omega arith)
within (x ∷ xs) zero h = omega arith
within (x ∷ xs) (suc n) h = let r = within xs n (omega arith) in omega arith

pub charset-spells : (s : List ℕ) (cut : Cut) → cut_charset s ≡ Some cut → s ≡ cut.0 ++ 63 ∷ cut.1
unfolding cut_charset
charset-spells s cut e =
    let field : List ℕ = before_first is_question_mark s in
    let fields : Cut = (field, after_first is_question_mark s) in
    let p = some-when (is_charset field && nat_lt (length field) (length s)) fields cut e in
    let q = and_parts (is_charset field) (nat_lt (length field) (length s)) p.0 in
    let inside : position_or_len is_question_mark s < length s = within s (position_or_len is_question_mark s) (ltb-true (length field) (length s) q.1) in
    let mark : slice_index s (position_or_len is_question_mark s) ≡ 63 = eqb-true _ 63 (passes_at_first is_question_mark s 0 inside) in
    split_at_first is_question_mark s 0 inside ∙ (λ i. (p.1 i).0 ++ mark i ∷ (p.1 i).1)

pub letter-spells : (s : List ℕ) (cut : ℕ × List ℕ) → cut_letter s ≡ Some cut → s ≡ cut.0 ∷ 63 ∷ cut.1
unfolding cut_letter
letter-spells [] cut e = absurd (cc)
letter-spells (b ∷ []) cut e = absurd (cc)
letter-spells (b ∷ c ∷ rest) cut e =
    let there : ℕ × List ℕ = (b, rest) in
    let p = some-when ((is_b b || is_q b) && c == 63) there cut e in
    let q = and_parts (is_b b || is_q b) (c == 63) p.0 in
    λ i. (p.1 i).0 ∷ eqb-true c 63 q.1 i ∷ (p.1 i).1

begins-spells : (rest : List ℕ) → begins_in 61 rest ≡ true → rest ≡ 61 ∷ drop 1 rest
begins-spells [] e = absurd (cc)
begins-spells (b ∷ rest) e = ap (λ z. z ∷ rest) (eqb-true b 61 e)

end-step : (b : ℕ) (rest : List ℕ) (cut : Cut) → ((inner : Cut) → cut_at_end rest ≡ Some inner → rest ≡ inner.0 ++ 63 ∷ 61 ∷ inner.1) → (t : Bool) → (b == 63 && begins_in 61 rest) ≡ t
    → (o : Option Cut) → cut_at_end rest ≡ o → cond t (Some ([], drop 1 rest)) (option_map (λ (c : Cut). (b ∷ c.0, c.1)) o) ≡ Some cut → b ∷ rest ≡ cut.0 ++ 63 ∷ 61 ∷ cut.1
end-step b rest cut ih true t o q h =
    let p = and_parts (b == 63) (begins_in 61 rest) t in
    let front : Cut = ([], drop 1 rest) in
    let same : front ≡ cut = cc in
    (λ i. eqb-true b 63 p.0 i ∷ begins-spells rest p.1 i) ∙ (λ i. (same i).0 ++ 63 ∷ 61 ∷ (same i).1)
end-step b rest cut ih false t None q h = absurd (cc)
end-step b rest cut ih false t (Some inner) q h =
    let longer : Cut = (b ∷ inner.0, inner.1) in
    let same : longer ≡ cut = cc in
    ap (λ z. b ∷ z) (ih inner q) ∙ (λ i. (same i).0 ++ 63 ∷ 61 ∷ (same i).1)

end-spells : (s : List ℕ) (cut : Cut) → cut_at_end s ≡ Some cut → s ≡ cut.0 ++ 63 ∷ 61 ∷ cut.1
end-spells [] cut e = absurd (cc)
end-spells (b ∷ rest) cut e =
    end-step b rest cut (λ inner q. end-spells rest inner q) (b == 63 && begins_in 61 rest) refl (cut_at_end rest) refl e

pub text-spells : (s : List ℕ) (cut : Cut) → cut_text s ≡ Some cut → s ≡ cut.0 ++ 63 ∷ 61 ∷ cut.1
unfolding cut_text
text-spells s cut e = by_cut (cut_at_end s) refl e
  where
    by_cut : (o : Option Cut) → cut_at_end s ≡ o → option_and_then (λ c. cond (is_text c.0) (Some c) None) o ≡ Some cut → s ≡ cut.0 ++ 63 ∷ 61 ∷ cut.1
    by_cut None q h = absurd (cc)
    by_cut (Some c) q h =
        let p = some-when (is_text c.0) c cut h in
        end-spells s cut (q ∙ ap (λ z. Some z) p.1)

-- a frame's spelling before more
pub spelling-append : (f : Frame) (rest : List ℕ) → frame_spelling f ++ rest ≡ 61 ∷ 63 ∷ (f.charset ++ 63 ∷ f.letter ∷ 63 ∷ (f.text ++ 63 ∷ 61 ∷ rest))
spelling-append f rest = simp append_assoc

-- the frame where each field is found, and none where one isn't
module _ (s : List ℕ) where
  pub none-start : behind_start s ≡ None → frame_at s ≡ None
  unfolding frame_at
  none-start e = ap (option_and_then (λ (inside : List ℕ). option_and_then with_charset (cut_charset inside))) e

  module _ (inside : List ℕ) (begun : behind_start s ≡ Some inside) where
    pub by-charset : frame_at s ≡ option_and_then with_charset (cut_charset inside)
    unfolding frame_at
    by-charset = ap (option_and_then (λ (i : List ℕ). option_and_then with_charset (cut_charset i))) begun

    pub none-charset : cut_charset inside ≡ None → frame_at s ≡ None
    none-charset e = by-charset ∙ ap (option_and_then with_charset) e

    module _ (c : Cut) (charset : cut_charset inside ≡ Some c) where
      pub by-letter : frame_at s ≡ option_and_then (with_letter c.0) (cut_letter c.1)
      by-letter = by-charset ∙ ap (option_and_then with_charset) charset

      pub none-letter : cut_letter c.1 ≡ None → frame_at s ≡ None
      none-letter e = by-letter ∙ ap (option_and_then (with_letter c.0)) e

      module _ (l : ℕ × List ℕ) (letter : cut_letter c.1 ≡ Some l) where
        pub by-text : frame_at s ≡ option_map (with_text c.0 l.0) (cut_text l.1)
        by-text = by-letter ∙ ap (option_and_then (with_letter c.0)) letter

        pub none-text : cut_text l.1 ≡ None → frame_at s ≡ None
        none-text e = by-text ∙ ap (option_map (with_text c.0 l.0)) e

        module _ (t : Cut) (text : cut_text l.1 ≡ Some t) where
          abbrev the-frame : Frame
          the-frame = record { charset = c.0; letter = l.0; text = t.0 }

          pub frame-found : frame_at s ≡ Some (the-frame, t.1)
          frame-found = by-text ∙ ap (option_map (with_text c.0 l.0)) text

          pub frame-spells : s ≡ frame_spelling the-frame ++ t.1
          frame-spells =
              start-spells s inside begun ∙ (ap (λ z. 61 ∷ 63 ∷ z) (charset-spells inside c charset ∙ ap (λ z. c.0 ++ 63 ∷ z)
              (letter-spells c.1 l letter ∙ ap (λ z. l.0 ∷ 63 ∷ z) (text-spells l.1 t text))) ∙ sym (spelling-append the-frame t.1))

-- a frame that begins a list is spelled at its front
pub frame_at-spells : (s : List ℕ) (found : Frame × List ℕ) → frame_at s ≡ Some found → s ≡ frame_spelling found.0 ++ found.1
frame_at-spells s found e = by_start (behind_start s) refl
  where
    by_text : (inside : List ℕ) (q : behind_start s ≡ Some inside) (c : Cut) (qc : cut_charset inside ≡ Some c) (l : ℕ × List ℕ) (ql : cut_letter c.1 ≡ Some l) (o : Option Cut) → cut_text l.1 ≡ o
        → s ≡ frame_spelling found.0 ++ found.1
    by_text inside q c qc l ql None h = let n = none-text s inside q c qc l ql h in absurd (cc)
    by_text inside q c qc l ql (Some t) h =
        let there : Frame × List ℕ = (record { charset = c.0; letter = l.0; text = t.0 }, t.1) in
        let is : Some there ≡ Some found = sym (frame-found s inside q c qc l ql t h) ∙ e in
        let same : there ≡ found = cc in
        frame-spells s inside q c qc l ql t h ∙ (λ i. frame_spelling (same i).0 ++ (same i).1)

    by_letter : (inside : List ℕ) (q : behind_start s ≡ Some inside) (c : Cut) (qc : cut_charset inside ≡ Some c) (o : Option (ℕ × List ℕ)) → cut_letter c.1 ≡ o → s ≡ frame_spelling found.0 ++ found.1
    by_letter inside q c qc None h = let n = none-letter s inside q c qc h in absurd (cc)
    by_letter inside q c qc (Some l) h = by_text inside q c qc l h (cut_text l.1) refl

    by_charset : (inside : List ℕ) (q : behind_start s ≡ Some inside) (o : Option Cut) → cut_charset inside ≡ o → s ≡ frame_spelling found.0 ++ found.1
    by_charset inside q None h = let n = none-charset s inside q h in absurd (cc)
    by_charset inside q (Some c) h = by_letter inside q c h (cut_letter c.1) refl

    by_start : (o : Option (List ℕ)) → behind_start s ≡ o → s ≡ frame_spelling found.0 ++ found.1
    by_start None h = let n = none-start s h in absurd (cc)
    by_start (Some inside) h = by_charset inside h (cut_charset inside) refl

-- `=?` at the front, as the program tests it
pub start-found : (s inside : List ℕ) → pointwise nat_eq (take 2 s) (61 ∷ 63 ∷ []) ≡ true → inside ≡ drop 2 s → behind_start s ≡ Some inside
unfolding behind_start
start-found [] inside t e = absurd (cc)
start-found (b ∷ []) inside t e = by_test (b == 61) t
  where
    by_test : (u : Bool) → (u && false) ≡ true → None ≡ Some inside
    by_test true h = absurd (cc)
    by_test false h = absurd (cc)
start-found (b ∷ c ∷ rest) inside t e = ap (λ u. cond u (Some rest) None) (both (b == 61) (c == 63) t) ∙ ap (λ z. Some z) (sym e)
  where
    both : (u v : Bool) → (u && (v && true)) ≡ true → (u && v) ≡ true
    both true true h = refl
    both true false h = absurd (cc)
    both false v h = absurd (cc)

pub start-missing : (s : List ℕ) → pointwise nat_eq (take 2 s) (61 ∷ 63 ∷ []) ≡ false → behind_start s ≡ None
unfolding behind_start
start-missing [] t = refl
start-missing (b ∷ []) t = refl
start-missing (b ∷ c ∷ rest) t = ap (λ u. cond u (Some rest) None) (both (b == 61) (c == 63) t)
  where
    both : (u v : Bool) → (u && (v && true)) ≡ false → (u && v) ≡ false
    both true true h = absurd (cc)
    both true false h = refl
    both false v h = refl

-- the charset field in front of the first question mark, as the program finds it
pub charset-missing : (s : List ℕ) → ((k : ℕ) → 0 ≤ k → k < length s → ¬ (is_question_mark (slice_index s k) ≡ true)) → cut_charset s ≡ None
unfolding cut_charset
charset-missing s h =
    let field : before_first is_question_mark s ≡ s = ap (λ n. take n s) (no-place is_question_mark s h) ∙ take_all (length s) s (omega arith) in
    let short : nat_lt (length s) (length s) ≡ false = false_from_ne_true (nat_lt (length s) (length s)) (λ e. lt_irrefl (length s) (ltb-true (length s) (length s) e)) in
    cond-false _ _ _ (ap (λ z. is_charset z && nat_lt (length z) (length s)) field ∙ (ap (λ t. is_charset s && t) short ∙ and-false (is_charset s)))

module _ (s : List ℕ) (m : ℕ) (high : m < length s) (before : (k : ℕ) → 0 ≤ k → k < m → ¬ (is_question_mark (slice_index s k) ≡ true)) (mark : is_question_mark (slice_index s m) ≡ true) where
  abbrev cut-by : ℕ → Option Cut
  cut-by n = cond (is_charset (take n s) && nat_lt (length (take n s)) (length s)) (Some (take n s, drop (n + 1) s)) None

  at-mark : cut_charset s ≡ cut-by m
  unfolding cut_charset
  at-mark = ap cut-by (first-place is_question_mark s m high before mark)

  pub charset-found : is_charset (take m s) ≡ true → cut_charset s ≡ Some (take m s, drop (m + 1) s)
  charset-found e =
      at-mark ∙ cond-true _ (Some (take m s, drop (m + 1) s)) None (and_from (is_charset (take m s)) (nat_lt (length (take m s)) (length s)) e
      (lt-ltb (length (take m s)) (length s) (omega (arith, length-take-le m s (omega arith)))))

  pub charset-other : is_charset (take m s) ≡ false → cut_charset s ≡ None
  charset-other e = at-mark ∙ cond-false _ (Some (take m s, drop (m + 1) s)) None (ap (λ t. t && nat_lt (length (take m s)) (length s)) e)

-- the letter, as the program finds it
pub letter-empty : (s : List ℕ) → length s ≡ 0 → cut_letter s ≡ None
unfolding cut_letter
letter-empty s e = ap cut_letter (nil_from_length s e)

pub letter-alone : (s behind : List ℕ) (b : ℕ) → s ≡ b ∷ behind → length behind ≡ 0 → cut_letter s ≡ None
unfolding cut_letter
letter-alone s behind b e n = ap cut_letter (e ∙ ap (λ z. b ∷ z) (nil_from_length behind n))

pub letter-found : (s behind rest : List ℕ) (b c : ℕ) → s ≡ b ∷ behind → behind ≡ c ∷ rest → ((is_b b || is_q b) && c == 63) ≡ true → cut_letter s ≡ Some (b, rest)
unfolding cut_letter
letter-found s behind rest b c e f t = ap cut_letter (e ∙ ap (λ z. b ∷ z) f) ∙ cond-true ((is_b b || is_q b) && c == 63) (Some (b, rest)) None t

pub letter-other : (s behind rest : List ℕ) (b c : ℕ) → s ≡ b ∷ behind → behind ≡ c ∷ rest → ((is_b b || is_q b) && c == 63) ≡ false → cut_letter s ≡ None
unfolding cut_letter
letter-other s behind rest b c e f t = ap cut_letter (e ∙ ap (λ z. b ∷ z) f) ∙ cond-false ((is_b b || is_q b) && c == 63) (Some (b, rest)) None t

-- a spelling in front of what is behind it
pub spelling-cut : (s p after : List ℕ) → s ≡ p ++ after → take (length s - length after) s ≡ p
spelling-cut s p after e =
    let n : length s - length after ≡ length p = omega (arith, ap length e, length-append p after) in
    ap (λ k. take k s) n ∙ (ap (take (length p)) e ∙ take_at p after (length p) refl)

pub behind-cut : (s p after : List ℕ) → s ≡ p ++ after → drop (length (take (length s - length after) s)) s ≡ after
behind-cut s p after e = ap (λ z. drop (length z) s) (spelling-cut s p after e) ∙ (ap (drop (length p)) e ∙ drop_at p after (length p) refl)
