-- `reading_of` is a reading.
use Rattle.std.proofs.Common.{◌≡◌, ℕ, zero, suc, ◌-◌, ◌<◌, ◌↔◌, Bool, true, false, ◌&&◌, Option, Some, None, List, [], ◌∷◌, ◌++◌, length, drop, refl, sym, ap, ◌∙◌, subst, arith}
use Rattle.std.specs.List.{list_all}
use Rattle.std.proofs.lemmas.Bool.{false≢true, and_parts, and_from, both_ways, cond_both}
use Rattle.std.proofs.lemmas.List.Sums.{AllPass-from_list_all, list_all-from_AllPass}
use Rattle.words.specs.Word.{Word, spelling, word_at, IsWord}
use Rattle.words.specs.Reading.{Part, Encoded, Clear, Gap, part_spelling, spellings, is_gap_byte, BeginsInWord, BeginsInClear, Piece, piece_at, pieces_after, before_parts, joined, begins_in_word, clear_or_gap, with_gaps, reading_of, IsReading}
use Rattle.words.proofs.Words.{begins-word_at, split-begins}
use Rattle.words.proofs.ByParts.{NoWord, Reads, IsReading-from_Reads, Reads-from_IsReading}
use Rattle.words.proofs.Unique.{drop-less-one, spelling-long, reading_of-spellings}

-- the parts before gaps are told from clear text
abbrev pub Joins : List Part → Type 0
Joins [] = Unit {0}
Joins (Encoded w ∷ rest) = IsWord w × Joins rest
Joins (Clear text ∷ rest) = (0 < length text) × NoWord text (spellings rest) × (¬ BeginsInClear rest) × Joins rest
Joins (Gap text ∷ rest) = ⊥

Joins-before : (b : ℕ) (parts : List Part) → Joins parts → word_at (b ∷ spellings parts) ≡ None → Joins (before_parts b parts)
Joins-before b [] h e = (omega arith, (e, tt), (λ c. let q = c.2 in cc), tt)
Joins-before b (Encoded w ∷ rest) h e = (omega arith, (e, tt), (λ c. let q = c.2 in cc), h)
Joins-before b (Clear t ∷ rest) h e = (omega arith, (e, h.1), h.2, h.3)
Joins-before b (Gap t ∷ rest) h e = absurd h

spellings-before : (b : ℕ) (parts : List Part) → spellings (before_parts b parts) ≡ b ∷ spellings parts
spellings-before b [] = refl
spellings-before b (Encoded w ∷ rest) = refl
spellings-before b (Clear t ∷ rest) = refl
spellings-before b (Gap t ∷ rest) = refl

abbrev pub JoinsTo : List Part → List ℕ → Type 0
JoinsTo parts s = Joins parts × (spellings parts ≡ s)

JoinsTo-none : (b : ℕ) (bs : List ℕ) (parts : List Part) → word_at (b ∷ bs) ≡ None → JoinsTo parts bs → JoinsTo (before_parts b parts) (b ∷ bs)
JoinsTo-none b bs parts e h =
    let e' : word_at (b ∷ spellings parts) ≡ None = ap (λ z. word_at (b ∷ z)) h.1 ∙ e in
    (Joins-before b parts h.0 e', spellings-before b parts ∙ ap (λ z. b ∷ z) h.1)

JoinsTo-some : (s more : List ℕ) (w : Word) (parts : List Part) → word_at s ≡ Some w → more ≡ drop (length (spelling w)) s → JoinsTo parts more → JoinsTo (Encoded w ∷ parts) s
JoinsTo-some s more w parts e m h =
    let begins = begins-word_at s w e in
    ((begins.word, h.0), ap (λ z. spelling w ++ z) (h.1 ∙ m) ∙ sym (split-begins s w begins))

pieces-step : (b : ℕ) (bs : List ℕ) (pieces : ℕ → List Piece) → ((n : ℕ) → JoinsTo (joined (pieces n)) (drop n bs)) → (o : Option Word) → word_at (b ∷ bs) ≡ o
    → JoinsTo (joined (piece_at o b pieces)) (b ∷ bs)
pieces-step b bs pieces ih None e = JoinsTo-none b bs (joined (pieces 0)) e (ih 0)
pieces-step b bs pieces ih (Some w) e =
    let n : ℕ = length (spelling w) in
    JoinsTo-some (b ∷ bs) (drop (n - 1) bs) w (joined (pieces (n - 1))) e (drop-less-one n b bs (spelling-long w)) (ih (n - 1))

JoinsTo-pieces : (left : ℕ) (s : List ℕ) → JoinsTo (joined (pieces_after left s)) (drop left s)
unfolding pieces_after
JoinsTo-pieces zero [] = (tt, refl)
JoinsTo-pieces (suc left) [] = (tt, refl)
JoinsTo-pieces (suc left) (b ∷ bs) = JoinsTo-pieces left bs
JoinsTo-pieces zero (b ∷ bs) = pieces-step b bs (λ n. pieces_after n bs) (λ n. JoinsTo-pieces n bs) (word_at (b ∷ bs)) refl

-- the same parts, with gaps told from clear text
begins_in_word-with_gaps : (a : Bool) (parts : List Part) → begins_in_word parts ≡ true → BeginsInWord (with_gaps a parts)
begins_in_word-with_gaps a [] e = absurd (false≢true e)
begins_in_word-with_gaps a (Encoded w ∷ rest) e = (w, with_gaps true rest, refl)
begins_in_word-with_gaps a (Clear t ∷ rest) e = absurd (false≢true e)
begins_in_word-with_gaps a (Gap t ∷ rest) e = absurd (false≢true e)

spelling-clear_or_gap : (b : Bool) (t : List ℕ) → part_spelling (clear_or_gap b t) ≡ t
spelling-clear_or_gap b t = cond_both (b && list_all is_gap_byte t) (Gap t) (Clear t) (λ p. part_spelling p ≡ t) (λ e. refl) (λ e. refl)

spellings-with_gaps : (a : Bool) (parts : List Part) → spellings (with_gaps a parts) ≡ spellings parts
spellings-with_gaps a [] = refl
spellings-with_gaps a (Encoded w ∷ rest) = ap (λ z. spelling w ++ z) (spellings-with_gaps true rest)
spellings-with_gaps a (Clear t ∷ rest) =
    ap (λ z. z ++ spellings (with_gaps false rest)) (spelling-clear_or_gap (a && begins_in_word rest) t) ∙ ap (λ z. t ++ z) (spellings-with_gaps false rest)
spellings-with_gaps a (Gap t ∷ rest) = ap (λ z. t ++ z) (spellings-with_gaps false rest)

begins-from_with_gaps : (a : Bool) (parts : List Part) → ¬ BeginsInClear parts → BeginsInWord (with_gaps a parts) → begins_in_word parts ≡ true
begins-from_with_gaps a [] n h = let e = h.2 in cc
begins-from_with_gaps a (Encoded w ∷ rest) n h = refl
begins-from_with_gaps a (Clear t ∷ rest) n h = absurd (n (t, rest, refl))
begins-from_with_gaps a (Gap t ∷ rest) n h = let e = h.2 in cc

fresh-with_gaps : (a : Bool) (parts : List Part) → Joins parts → ¬ BeginsInClear parts → ¬ BeginsInClear (with_gaps a parts)
fresh-with_gaps a [] j n = λ c. let e = c.2 in cc
fresh-with_gaps a (Encoded w ∷ rest) j n = λ c. let e = c.2 in cc
fresh-with_gaps a (Clear t ∷ rest) j n = absurd (n (t, rest, refl))
fresh-with_gaps a (Gap t ∷ rest) j n = absurd j

-- text between parts is named as a reading names it
Reads-named : (a : Bool) (t : List ℕ) (rest : List Part) → Joins (Clear t ∷ rest) → Reads false (with_gaps false rest)
    → Reads a (clear_or_gap (a && begins_in_word rest) t ∷ with_gaps false rest)
Reads-named a t rest h r =
    let between : Bool = a && begins_in_word rest in
    cond_both (between && list_all is_gap_byte t) (Gap t) (Clear t) (λ p. Reads a (p ∷ with_gaps false rest))
    (λ e.
    let p = and_parts between (list_all is_gap_byte t) e in
    let q = and_parts a (begins_in_word rest) p.0 in
    (q.0, h.0, AllPass-from_list_all is_gap_byte t p.1, begins_in_word-with_gaps false rest q.1, r))
    (λ e. (
      h.0,
      subst (NoWord t) (sym (spellings-with_gaps false rest)) h.1,
      fresh-with_gaps false rest h.3 h.2,
      (λ x b g. both_ways (between && list_all is_gap_byte t) e (and_from between (list_all is_gap_byte t)
          (and_from a (begins_in_word rest) x (begins-from_with_gaps false rest h.2 b)) (list_all-from_AllPass is_gap_byte t g))),
      r,
    ))

Reads-with_gaps : (a : Bool) (parts : List Part) → Joins parts → Reads a (with_gaps a parts)
Reads-with_gaps a [] h = tt
Reads-with_gaps a (Encoded w ∷ rest) h = (h.0, Reads-with_gaps true rest h.1)
Reads-with_gaps a (Clear t ∷ rest) h = Reads-named a t rest h (Reads-with_gaps false rest h.3)
Reads-with_gaps a (Gap t ∷ rest) h = absurd h

pub reading_of-reads : (s : List ℕ) → Reads false (reading_of s) × (spellings (reading_of s) ≡ s)
unfolding reading_of
reading_of-reads s =
    let p = JoinsTo-pieces 0 s in
    (Reads-with_gaps false (joined (pieces_after 0 s)) p.0, spellings-with_gaps false (joined (pieces_after 0 s)) ∙ p.1)

pub reading_of-is : (s : List ℕ) → IsReading s (reading_of s)
reading_of-is s = let p = reading_of-reads s in IsReading-from_Reads s (reading_of s) p.1 p.0

pub reading_unique : (s : List ℕ) (parts : List Part) → IsReading s parts ↔ (parts ≡ reading_of s)
reading_unique s parts = (
  (λ h. sym (reading_of-spellings parts (Reads-from_IsReading s parts h)) ∙ ap reading_of h.joins),
  (λ e. subst (IsReading s) (sym e) (reading_of-is s)),
)
