-- A list has at most one reading: the parts follow from what they spell.
use Rattle.std.proofs.Common.{◌≡◌, ℕ, zero, suc, ◌-◌, ◌<◌, Bool, true, false, ◌&&◌, Some, None, List, [], ◌∷◌, ◌++◌, length, map, drop, IsTrue, refl, ap, ◌∙◌, arith}
use Rattle.std.specs.List.{list_all}
use Rattle.std.proofs.lemmas.Bool.{false≢true, false_from_ne_true, and_parts, and_from, cond-true, cond-false}
use Rattle.std.proofs.lemmas.List.{drop_at}
use Rattle.std.proofs.lemmas.List.Sums.{AllPass-from_list_all, list_all-from_AllPass}
use Rattle.std.proofs.lemmas.List.Elements.{All-head, All-tail}
use Rattle.people.specs.Reading.{Syntax, IsSyntax, Part, Encoded, Clear, Gap, spellings, IsGapText, BeginsInWord, BeginsInClear, Piece, Whole, Single, piece_at, pieces_after, before_parts, joined, begins_in_word, clear_or_gap, with_gaps, reading_of}
use Rattle.people.proofs.ByParts.{NoWord, Reads}

pub drop-less-one : (n b : ℕ) (bs : List ℕ) → 0 < n → drop (n - 1) bs ≡ drop n (b ∷ bs)
drop-less-one zero b bs h = absurd (omega arith)
drop-less-one (suc n) b bs h = ap (λ k. drop k bs) (omega arith)

module _ {W : Type 0} (x : Syntax W) where
  pub pieces-skip : (n : ℕ) (s : List ℕ) → pieces_after x n s ≡ pieces_after x 0 (drop n s)
  unfolding pieces_after
  pieces-skip zero s = refl
  pieces-skip (suc n) [] = refl
  pieces-skip (suc n) (b ∷ bs) = pieces-skip n bs

  pub pieces-none : (b : ℕ) (bs : List ℕ) → x.word_at (b ∷ bs) ≡ None → pieces_after x 0 (b ∷ bs) ≡ Single b ∷ pieces_after x 0 bs
  unfolding pieces_after
  pieces-none b bs e = ap (λ o. piece_at x o b (λ left. pieces_after x left bs)) e

  pub pieces-some : (b : ℕ) (bs : List ℕ) (w : W) → x.word_at (b ∷ bs) ≡ Some w → pieces_after x 0 (b ∷ bs) ≡ Whole w ∷ pieces_after x (length (x.spelling w) - 1) bs
  unfolding pieces_after
  pieces-some b bs w e = ap (λ o. piece_at x o b (λ left. pieces_after x left bs)) e

  pub pieces-end : pieces_after x 0 [] ≡ []
  unfolding pieces_after
  pieces-end = refl

  -- text before parts: it joins clear text at their front
  abbrev pub text_before : List ℕ → List (Part W) → List (Part W)
  text_before [] parts = parts
  text_before (b ∷ text) parts = before_parts b (text_before text parts)

  pub joined-clear : (text : List ℕ) (pieces : List (Piece W)) → joined (map Single text ++ pieces) ≡ text_before text (joined pieces)
  joined-clear [] pieces = refl
  joined-clear (b ∷ text) pieces = ap (before_parts b) (joined-clear text pieces)

  before_parts-fresh : (b : ℕ) (parts : List (Part W)) → ¬ BeginsInClear parts → before_parts b parts ≡ Clear (b ∷ []) ∷ parts
  before_parts-fresh b [] h = refl
  before_parts-fresh b (Encoded w ∷ rest) h = refl
  before_parts-fresh b (Clear t ∷ rest) h = absurd (h (t, rest, refl))
  before_parts-fresh b (Gap t ∷ rest) h = refl

  pub text_before-fresh : (b : ℕ) (text : List ℕ) (parts : List (Part W)) → ¬ BeginsInClear parts → text_before (b ∷ text) parts ≡ Clear (b ∷ text) ∷ parts
  text_before-fresh b [] parts h = before_parts-fresh b parts h
  text_before-fresh b (c ∷ text) parts h = ap (before_parts b) (text_before-fresh c text parts h)

  -- parts with each gap as clear text
  abbrev pub ungapped : List (Part W) → List (Part W)
  ungapped [] = []
  ungapped (Encoded w ∷ rest) = Encoded w ∷ ungapped rest
  ungapped (Clear text ∷ rest) = Clear text ∷ ungapped rest
  ungapped (Gap text ∷ rest) = Clear text ∷ ungapped rest

  -- the pieces of text in which no word begins, and more
  pub pieces-clear : (text more : List ℕ) → NoWord x text more → pieces_after x 0 (text ++ more) ≡ map Single text ++ pieces_after x 0 more
  pieces-clear [] more h = refl
  pieces-clear (b ∷ text) more h = pieces-none b (text ++ more) h.0 ∙ ap (λ z. Single b ∷ z) (pieces-clear text more h.1)

  ungapped-fresh : (parts : List (Part W)) → Reads x false parts → ¬ BeginsInClear parts → ¬ BeginsInClear (ungapped parts)
  ungapped-fresh [] h n = λ c. let e = c.2 in cc
  ungapped-fresh (Encoded w ∷ rest) h n = λ c. let e = c.2 in cc
  ungapped-fresh (Clear t ∷ rest) h n = absurd (n (t, rest, refl))
  ungapped-fresh (Gap t ∷ rest) h n = absurd (false≢true h.0)

  joined-text : (text : List ℕ) (rest : List (Part W)) → 0 < length text → NoWord x text (spellings x rest) → Reads x false rest → ¬ BeginsInClear rest
      → joined (pieces_after x 0 (spellings x rest)) ≡ ungapped rest → joined (pieces_after x 0 (text ++ spellings x rest)) ≡ Clear text ∷ ungapped rest
  joined-text [] rest l n r c h = absurd (omega arith)
  joined-text (b ∷ text) rest l n r c h =
      ap joined (pieces-clear (b ∷ text) (spellings x rest) n) ∙ (joined-clear (b ∷ text) (pieces_after x 0 (spellings x rest)) ∙
      (ap (text_before (b ∷ text)) h ∙ text_before-fresh b text (ungapped rest) (ungapped-fresh rest r c)))

  BeginsInWord-from : (rest : List (Part W)) → begins_in_word (ungapped rest) ≡ true → BeginsInWord rest
  BeginsInWord-from [] e = absurd (false≢true e)
  BeginsInWord-from (Encoded w ∷ rest) e = (w, rest, refl)
  BeginsInWord-from (Clear t ∷ rest) e = absurd (false≢true e)
  BeginsInWord-from (Gap t ∷ rest) e = absurd (false≢true e)

  begins-from_BeginsInWord : (rest : List (Part W)) → BeginsInWord rest → begins_in_word (ungapped rest) ≡ true
  begins-from_BeginsInWord rest h = ap (λ z. begins_in_word (ungapped z)) h.2

  clear-named : (between : Bool) (t : List ℕ) → (between ≡ true → ¬ IsGapText x t) → clear_or_gap x between t ≡ Clear t
  clear-named between t h = cond-false (between && list_all x.is_gap_byte t) (Gap t) (Clear t) (false_from_ne_true (between && list_all x.is_gap_byte t) (λ e.
      let p = and_parts between (list_all x.is_gap_byte t) e in
      h p.0 (AllPass-from_list_all x.is_gap_byte t p.1)))

  gap-named : (between : Bool) (t : List ℕ) → between ≡ true → IsGapText x t → clear_or_gap x between t ≡ Gap t
  gap-named between t e h = cond-true (between && list_all x.is_gap_byte t) (Gap t) (Clear t) (and_from between (list_all x.is_gap_byte t) e (list_all-from_AllPass x.is_gap_byte t h))

  pub with_gaps-ungapped : (a : Bool) (parts : List (Part W)) → Reads x a parts → with_gaps x a (ungapped parts) ≡ parts
  with_gaps-ungapped a [] h = refl
  with_gaps-ungapped a (Encoded w ∷ rest) h = ap (λ z. Encoded w ∷ z) (with_gaps-ungapped true rest h.1)
  with_gaps-ungapped a (Clear t ∷ rest) h =
      let r = with_gaps-ungapped false rest h.4 in
      let e = clear-named (a && begins_in_word (ungapped rest)) t (λ b. let p = and_parts a (begins_in_word (ungapped rest)) b in h.3 p.0 (BeginsInWord-from rest p.1)) in
      λ i. e i ∷ r i
  with_gaps-ungapped a (Gap t ∷ rest) h =
      let r = with_gaps-ungapped false rest h.4 in
      let e = gap-named (a && begins_in_word (ungapped rest)) t (and_from a (begins_in_word (ungapped rest)) h.0 (begins-from_BeginsInWord rest h.3)) h.2 in
      λ i. e i ∷ r i

  module _ (is : IsSyntax x) where
    pub pieces-word : (b : ℕ) (bs : List ℕ) (w : W) → x.word_at (b ∷ bs) ≡ Some w → pieces_after x 0 (b ∷ bs) ≡ Whole w ∷ pieces_after x 0 (drop (length (x.spelling w)) (b ∷ bs))
    pieces-word b bs w e =
        pieces-some b bs w e ∙ ap (λ z. Whole w ∷ z)
        (pieces-skip (length (x.spelling w) - 1) bs ∙ ap (pieces_after x 0) (drop-less-one (length (x.spelling w)) b bs (is.nonempty (b ∷ bs) w e)))

    -- the pieces of a list that begins with a word
    pub pieces-begun : (s : List ℕ) (w : W) → x.word_at s ≡ Some w → pieces_after x 0 s ≡ Whole w ∷ pieces_after x 0 (drop (length (x.spelling w)) s)
    pieces-begun [] w e =
        let h = is.nonempty [] w e in let q = ap length (is.spelled [] w e) in absurd (omega (arith, spelled-long (x.spelling w) q))
      where
        spelled-long : (p : List ℕ) → 0 ≡ length (p ++ drop (length p) []) → length p ≡ 0
        spelled-long [] q = refl
        spelled-long (b ∷ p) q = absurd (omega arith)
    pieces-begun (b ∷ bs) w e = pieces-word b bs w e

    -- the pieces of a word and more
    pub pieces-spelling : (w : W) (more : List ℕ) → x.word_at (x.spelling w ++ more) ≡ Some w → pieces_after x 0 (x.spelling w ++ more) ≡ Whole w ∷ pieces_after x 0 more
    pieces-spelling w more e =
        pieces-begun (x.spelling w ++ more) w e ∙ ap (λ z. Whole w ∷ pieces_after x 0 z) (drop_at (x.spelling w) more (length (x.spelling w)) refl)

    -- no word begins in a gap
    NoWord-gap : (text more : List ℕ) → IsGapText x text → NoWord x text more
    NoWord-gap [] more h = tt
    NoWord-gap (b ∷ text) more h = (
      is.no_gap b (text ++ more) (All-head (λ c. IsTrue (x.is_gap_byte c)) b text h),
      NoWord-gap text more (All-tail (λ c. IsTrue (x.is_gap_byte c)) b text h),
    )

    pub joined-spellings : (a : Bool) (parts : List (Part W)) → Reads x a parts → joined (pieces_after x 0 (spellings x parts)) ≡ ungapped parts
    joined-spellings a [] h = ap joined pieces-end
    joined-spellings a (Encoded w ∷ rest) h =
        ap joined (pieces-spelling w (spellings x rest) h.0) ∙ ap (λ z. Encoded w ∷ z) (joined-spellings true rest h.1)
    joined-spellings a (Clear t ∷ rest) h = joined-text t rest h.0 h.1 h.4 h.2 (joined-spellings false rest h.4)
    joined-spellings a (Gap t ∷ rest) h =
        joined-text t rest h.1 (NoWord-gap t (spellings x rest) h.2) h.4 (λ c. let e = c.2 in let w = h.3.2 in cc) (joined-spellings false rest h.4)

    -- the parts of a reading are the ones that `reading_of` gives
    pub reading_of-spellings : (parts : List (Part W)) → Reads x false parts → reading_of x (spellings x parts) ≡ parts
    unfolding reading_of
    reading_of-spellings parts h = ap (with_gaps x false) (joined-spellings false parts h) ∙ with_gaps-ungapped false parts h
