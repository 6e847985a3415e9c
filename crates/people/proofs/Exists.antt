-- `reading_of` is a reading.
use Rattle.std.proofs.Common.{◌≡◌, ℕ, zero, suc, ◌-◌, ◌<◌, ◌↔◌, Bool, true, false, ◌&&◌, Option, Some, None, List, [], ◌∷◌, ◌++◌, length, drop, refl, sym, ap, ◌∙◌, subst, arith}
use Rattle.std.specs.List.{list_all}
use Rattle.std.proofs.lemmas.Bool.{false≢true, and_parts, and_from, both_ways, cond_both}
use Rattle.std.proofs.lemmas.List.Sums.{AllPass-from_list_all, list_all-from_AllPass}
use Rattle.people.specs.Reading.{Syntax, IsSyntax, Part, Encoded, Clear, Gap, part_spelling, spellings, BeginsInWord, BeginsInClear, Piece, piece_at, pieces_after, before_parts, joined, begins_in_word, clear_or_gap, with_gaps, reading_of, IsReading}
use Rattle.people.proofs.ByParts.{NoWord, Reads, IsReading-from_Reads, Reads-from_IsReading}
use Rattle.people.proofs.Only.{drop-less-one, reading_of-spellings}

module _ {W : Type 0} (x : Syntax W) where
  -- the parts before gaps are told from clear text
  abbrev pub Joins : List (Part W) → Type 0
  Joins [] = Unit {0}
  Joins (Encoded w ∷ rest) = (x.word_at (x.spelling w ++ spellings x rest) ≡ Some w) × Joins rest
  Joins (Clear text ∷ rest) = (0 < length text) × NoWord x text (spellings x rest) × (¬ BeginsInClear rest) × Joins rest
  Joins (Gap text ∷ rest) = ⊥

  Joins-before : (b : ℕ) (parts : List (Part W)) → Joins parts → x.word_at (b ∷ spellings x parts) ≡ None → Joins (before_parts b parts)
  Joins-before b [] h e = (omega arith, (e, tt), (λ c. let q = c.2 in cc), tt)
  Joins-before b (Encoded w ∷ rest) h e = (omega arith, (e, tt), (λ c. let q = c.2 in cc), h)
  Joins-before b (Clear t ∷ rest) h e = (omega arith, (e, h.1), h.2, h.3)
  Joins-before b (Gap t ∷ rest) h e = absurd h

  spellings-before : (b : ℕ) (parts : List (Part W)) → spellings x (before_parts b parts) ≡ b ∷ spellings x parts
  spellings-before b [] = refl
  spellings-before b (Encoded w ∷ rest) = refl
  spellings-before b (Clear t ∷ rest) = refl
  spellings-before b (Gap t ∷ rest) = refl

  abbrev pub JoinsTo : List (Part W) → List ℕ → Type 0
  JoinsTo parts s = Joins parts × (spellings x parts ≡ s)

  JoinsTo-none : (b : ℕ) (bs : List ℕ) (parts : List (Part W)) → x.word_at (b ∷ bs) ≡ None → JoinsTo parts bs → JoinsTo (before_parts b parts) (b ∷ bs)
  JoinsTo-none b bs parts e h =
      let e' : x.word_at (b ∷ spellings x parts) ≡ None = ap (λ z. x.word_at (b ∷ z)) h.1 ∙ e in
      (Joins-before b parts h.0 e', spellings-before b parts ∙ ap (λ z. b ∷ z) h.1)

  -- the same parts, with gaps told from clear text
  begins_in_word-with_gaps : (a : Bool) (parts : List (Part W)) → begins_in_word parts ≡ true → BeginsInWord (with_gaps x a parts)
  begins_in_word-with_gaps a [] e = absurd (false≢true e)
  begins_in_word-with_gaps a (Encoded w ∷ rest) e = (w, with_gaps x true rest, refl)
  begins_in_word-with_gaps a (Clear t ∷ rest) e = absurd (false≢true e)
  begins_in_word-with_gaps a (Gap t ∷ rest) e = absurd (false≢true e)

  spelling-clear_or_gap : (b : Bool) (t : List ℕ) → part_spelling x (clear_or_gap x b t) ≡ t
  spelling-clear_or_gap b t = cond_both (b && list_all x.is_gap_byte t) (Gap t) (Clear t) (λ p. part_spelling x p ≡ t) (λ e. refl) (λ e. refl)

  spellings-with_gaps : (a : Bool) (parts : List (Part W)) → spellings x (with_gaps x a parts) ≡ spellings x parts
  spellings-with_gaps a [] = refl
  spellings-with_gaps a (Encoded w ∷ rest) = ap (λ z. x.spelling w ++ z) (spellings-with_gaps true rest)
  spellings-with_gaps a (Clear t ∷ rest) =
      ap (λ z. z ++ spellings x (with_gaps x false rest)) (spelling-clear_or_gap (a && begins_in_word rest) t) ∙ ap (λ z. t ++ z) (spellings-with_gaps false rest)
  spellings-with_gaps a (Gap t ∷ rest) = ap (λ z. t ++ z) (spellings-with_gaps false rest)

  begins-from_with_gaps : (a : Bool) (parts : List (Part W)) → ¬ BeginsInClear parts → BeginsInWord (with_gaps x a parts) → begins_in_word parts ≡ true
  begins-from_with_gaps a [] n h = let e = h.2 in cc
  begins-from_with_gaps a (Encoded w ∷ rest) n h = refl
  begins-from_with_gaps a (Clear t ∷ rest) n h = absurd (n (t, rest, refl))
  begins-from_with_gaps a (Gap t ∷ rest) n h = let e = h.2 in cc

  fresh-with_gaps : (a : Bool) (parts : List (Part W)) → Joins parts → ¬ BeginsInClear parts → ¬ BeginsInClear (with_gaps x a parts)
  fresh-with_gaps a [] j n = λ c. let e = c.2 in cc
  fresh-with_gaps a (Encoded w ∷ rest) j n = λ c. let e = c.2 in cc
  fresh-with_gaps a (Clear t ∷ rest) j n = absurd (n (t, rest, refl))
  fresh-with_gaps a (Gap t ∷ rest) j n = absurd j

  -- text between parts is named as a reading names it
  Reads-named : (a : Bool) (t : List ℕ) (rest : List (Part W)) → Joins (Clear t ∷ rest) → Reads x false (with_gaps x false rest)
      → Reads x a (clear_or_gap x (a && begins_in_word rest) t ∷ with_gaps x false rest)
  Reads-named a t rest h r =
      let between : Bool = a && begins_in_word rest in
      cond_both (between && list_all x.is_gap_byte t) (Gap t) (Clear t) (λ p. Reads x a (p ∷ with_gaps x false rest))
      (λ e.
      let p = and_parts between (list_all x.is_gap_byte t) e in
      let q = and_parts a (begins_in_word rest) p.0 in
      (q.0, h.0, AllPass-from_list_all x.is_gap_byte t p.1, begins_in_word-with_gaps false rest q.1, r))
      (λ e. (
        h.0,
        subst (NoWord x t) (sym (spellings-with_gaps false rest)) h.1,
        fresh-with_gaps false rest h.3 h.2,
        (λ y b g. both_ways (between && list_all x.is_gap_byte t) e (and_from between (list_all x.is_gap_byte t)
            (and_from a (begins_in_word rest) y (begins-from_with_gaps false rest h.2 b)) (list_all-from_AllPass x.is_gap_byte t g))),
        r,
      ))

  Reads-with_gaps : (a : Bool) (parts : List (Part W)) → Joins parts → Reads x a (with_gaps x a parts)
  Reads-with_gaps a [] h = tt
  Reads-with_gaps a (Encoded w ∷ rest) h = (ap (λ z. x.word_at (x.spelling w ++ z)) (spellings-with_gaps true rest) ∙ h.0, Reads-with_gaps true rest h.1)
  Reads-with_gaps a (Clear t ∷ rest) h = Reads-named a t rest h (Reads-with_gaps false rest h.3)
  Reads-with_gaps a (Gap t ∷ rest) h = absurd h

  module _ (is : IsSyntax x) where
    JoinsTo-some : (s more : List ℕ) (w : W) (parts : List (Part W)) → x.word_at s ≡ Some w → more ≡ drop (length (x.spelling w)) s → JoinsTo parts more → JoinsTo (Encoded w ∷ parts) s
    JoinsTo-some s more w parts e m h =
        let whole : x.spelling w ++ spellings x parts ≡ s = ap (λ z. x.spelling w ++ z) (h.1 ∙ m) ∙ sym (is.spelled s w e) in
        ((ap x.word_at whole ∙ e, h.0), whole)

    pieces-step : (b : ℕ) (bs : List ℕ) (pieces : ℕ → List (Piece W)) → ((n : ℕ) → JoinsTo (joined (pieces n)) (drop n bs)) → (o : Option W) → x.word_at (b ∷ bs) ≡ o
        → JoinsTo (joined (piece_at x o b pieces)) (b ∷ bs)
    pieces-step b bs pieces ih None e = JoinsTo-none b bs (joined (pieces 0)) e (ih 0)
    pieces-step b bs pieces ih (Some w) e =
        let n : ℕ = length (x.spelling w) in
        JoinsTo-some (b ∷ bs) (drop (n - 1) bs) w (joined (pieces (n - 1))) e (drop-less-one n b bs (is.nonempty (b ∷ bs) w e)) (ih (n - 1))

    JoinsTo-pieces : (left : ℕ) (s : List ℕ) → JoinsTo (joined (pieces_after x left s)) (drop left s)
    unfolding pieces_after
    JoinsTo-pieces zero [] = (tt, refl)
    JoinsTo-pieces (suc left) [] = (tt, refl)
    JoinsTo-pieces (suc left) (b ∷ bs) = JoinsTo-pieces left bs
    JoinsTo-pieces zero (b ∷ bs) = pieces-step b bs (λ n. pieces_after x n bs) (λ n. JoinsTo-pieces n bs) (x.word_at (b ∷ bs)) refl

    pub reading_of-reads : (s : List ℕ) → Reads x false (reading_of x s) × (spellings x (reading_of x s) ≡ s)
    unfolding reading_of
    reading_of-reads s =
        let p = JoinsTo-pieces 0 s in
        (Reads-with_gaps false (joined (pieces_after x 0 s)) p.0, spellings-with_gaps false (joined (pieces_after x 0 s)) ∙ p.1)

    pub reading_of-is : (s : List ℕ) → IsReading x s (reading_of x s)
    reading_of-is s = let p = reading_of-reads s in IsReading-from_Reads x s (reading_of x s) p.1 p.0

    pub reading_unique : (s : List ℕ) (parts : List (Part W)) → IsReading x s parts ↔ (parts ≡ reading_of x s)
    reading_unique s parts = (
      (λ h. sym (reading_of-spellings x is parts (Reads-from_IsReading x s parts h)) ∙ ap (reading_of x) h.joins),
      (λ e. subst (IsReading x s) (sym e) (reading_of-is s)),
    )
