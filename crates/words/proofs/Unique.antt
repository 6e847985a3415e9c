-- A list has at most one reading: the parts follow from what they spell.
use Rattle.std.proofs.Common.{◌≡◌, ℕ, zero, suc, ◌-◌, ◌<◌, Bool, true, false, ◌&&◌, Some, None, List, [], ◌∷◌, ◌++◌, length, map, drop, IsTrue, refl, ap, ◌∙◌, arith}
use Rattle.std.specs.List.{list_all}
use Rattle.std.proofs.lemmas.Bool.{false≢true, false_from_ne_true, and_parts, and_from, cond-true, cond-false}
use Rattle.std.proofs.lemmas.List.{drop_at}
use Rattle.std.proofs.lemmas.List.Sums.{AllPass-from_list_all, list_all-from_AllPass}
use Rattle.std.proofs.lemmas.List.Elements.{All-head, All-tail}
use Rattle.words.specs.Word.{Word, spelling, word_at, IsWord}
use Rattle.words.specs.Reading.{Part, Encoded, Clear, Gap, spellings, is_gap_byte, IsGapText, BeginsInWord, BeginsInClear, Piece, Whole, Single, piece_at, pieces_after, before_parts, joined, begins_in_word, clear_or_gap, with_gaps, reading_of}
use Rattle.words.proofs.Words.{word_at-begins, begins-append, no_word-from, split-begins}
use Rattle.words.proofs.ByParts.{NoWord, Reads}

pub pieces-skip : (n : ℕ) (s : List ℕ) → pieces_after n s ≡ pieces_after 0 (drop n s)
unfolding pieces_after
pieces-skip zero s = refl
pieces-skip (suc n) [] = refl
pieces-skip (suc n) (b ∷ bs) = pieces-skip n bs

pub pieces-none : (b : ℕ) (bs : List ℕ) → word_at (b ∷ bs) ≡ None → pieces_after 0 (b ∷ bs) ≡ Single b ∷ pieces_after 0 bs
unfolding pieces_after
pieces-none b bs e = ap (λ o. piece_at o b (λ left. pieces_after left bs)) e

pub pieces-some : (b : ℕ) (bs : List ℕ) (w : Word) → word_at (b ∷ bs) ≡ Some w → pieces_after 0 (b ∷ bs) ≡ Whole w ∷ pieces_after (length (spelling w) - 1) bs
unfolding pieces_after
pieces-some b bs w e = ap (λ o. piece_at o b (λ left. pieces_after left bs)) e

pub pieces-end : pieces_after 0 [] ≡ []
unfolding pieces_after
pieces-end = refl

-- a word's spelling isn't empty
pub spelling-long : (w : Word) → 0 < length (spelling w)
spelling-long w = omega arith

pub drop-less-one : (n b : ℕ) (bs : List ℕ) → 0 < n → drop (n - 1) bs ≡ drop n (b ∷ bs)
drop-less-one zero b bs h = absurd (omega arith)
drop-less-one (suc n) b bs h = ap (λ k. drop k bs) (omega arith)

pub pieces-word : (b : ℕ) (bs : List ℕ) (w : Word) → word_at (b ∷ bs) ≡ Some w → pieces_after 0 (b ∷ bs) ≡ Whole w ∷ pieces_after 0 (drop (length (spelling w)) (b ∷ bs))
pieces-word b bs w e =
    pieces-some b bs w e ∙ ap (λ z. Whole w ∷ z)
    (pieces-skip (length (spelling w) - 1) bs ∙ ap (pieces_after 0) (drop-less-one (length (spelling w)) b bs (spelling-long w)))

-- the pieces of a word and more
pub pieces-spelling : (w : Word) (more : List ℕ) → IsWord w → pieces_after 0 (spelling w ++ more) ≡ Whole w ∷ pieces_after 0 more
pieces-spelling w more h =
    let s : List ℕ = spelling w ++ more in
    let e : word_at s ≡ Some w = word_at-begins s w (begins-append w more h) in
    pieces-word 61 (drop 1 s) w e ∙ ap (λ z. Whole w ∷ pieces_after 0 z) (drop_at (spelling w) more (length (spelling w)) refl)

-- the pieces of text in which no word begins, and more
pub pieces-clear : (text more : List ℕ) → NoWord text more → pieces_after 0 (text ++ more) ≡ map Single text ++ pieces_after 0 more
pieces-clear [] more h = refl
pieces-clear (b ∷ text) more h = pieces-none b (text ++ more) h.0 ∙ ap (λ z. Single b ∷ z) (pieces-clear text more h.1)

-- text before parts: it joins clear text at their front
abbrev pub text_before : List ℕ → List Part → List Part
text_before [] parts = parts
text_before (b ∷ text) parts = before_parts b (text_before text parts)

pub joined-clear : (text : List ℕ) (pieces : List Piece) → joined (map Single text ++ pieces) ≡ text_before text (joined pieces)
joined-clear [] pieces = refl
joined-clear (b ∷ text) pieces = ap (before_parts b) (joined-clear text pieces)

before_parts-fresh : (b : ℕ) (parts : List Part) → ¬ BeginsInClear parts → before_parts b parts ≡ Clear (b ∷ []) ∷ parts
before_parts-fresh b [] h = refl
before_parts-fresh b (Encoded w ∷ rest) h = refl
before_parts-fresh b (Clear t ∷ rest) h = absurd (h (t, rest, refl))
before_parts-fresh b (Gap t ∷ rest) h = refl

pub text_before-fresh : (b : ℕ) (text : List ℕ) (parts : List Part) → ¬ BeginsInClear parts → text_before (b ∷ text) parts ≡ Clear (b ∷ text) ∷ parts
text_before-fresh b [] parts h = before_parts-fresh b parts h
text_before-fresh b (c ∷ text) parts h = ap (before_parts b) (text_before-fresh c text parts h)

-- parts with each gap as clear text
abbrev pub ungapped : List Part → List Part
ungapped [] = []
ungapped (Encoded w ∷ rest) = Encoded w ∷ ungapped rest
ungapped (Clear text ∷ rest) = Clear text ∷ ungapped rest
ungapped (Gap text ∷ rest) = Clear text ∷ ungapped rest

-- no word begins in a gap
NoWord-gap : (text more : List ℕ) → IsGapText text → NoWord text more
NoWord-gap [] more h = tt
NoWord-gap (b ∷ text) more h =
    let g : IsTrue (is_gap_byte b) = All-head (λ b. IsTrue (is_gap_byte b)) b text h in (
      no_word-from (b ∷ (text ++ more)) (λ w begins.
          let s : List ℕ = spelling w ++ drop (length (spelling w)) (b ∷ (text ++ more)) in
          let e : b ∷ (text ++ more) ≡ 61 ∷ drop 1 s = split-begins (b ∷ (text ++ more)) w begins in
          let q : b ≡ 61 = cc in
          false≢true (rw q at g)),
      NoWord-gap text more (All-tail (λ b. IsTrue (is_gap_byte b)) b text h),
    )

ungapped-fresh : (parts : List Part) → Reads false parts → ¬ BeginsInClear parts → ¬ BeginsInClear (ungapped parts)
ungapped-fresh [] h n = λ c. let e = c.2 in cc
ungapped-fresh (Encoded w ∷ rest) h n = λ c. let e = c.2 in cc
ungapped-fresh (Clear t ∷ rest) h n = absurd (n (t, rest, refl))
ungapped-fresh (Gap t ∷ rest) h n = absurd (false≢true h.0)

joined-text : (text : List ℕ) (rest : List Part) → 0 < length text → NoWord text (spellings rest) → Reads false rest → ¬ BeginsInClear rest
    → joined (pieces_after 0 (spellings rest)) ≡ ungapped rest → joined (pieces_after 0 (text ++ spellings rest)) ≡ Clear text ∷ ungapped rest
joined-text [] rest l n r c h = absurd (omega arith)
joined-text (b ∷ text) rest l n r c h =
    ap joined (pieces-clear (b ∷ text) (spellings rest) n) ∙ (joined-clear (b ∷ text) (pieces_after 0 (spellings rest)) ∙
    (ap (text_before (b ∷ text)) h ∙ text_before-fresh b text (ungapped rest) (ungapped-fresh rest r c)))

pub joined-spellings : (a : Bool) (parts : List Part) → Reads a parts → joined (pieces_after 0 (spellings parts)) ≡ ungapped parts
joined-spellings a [] h = ap joined pieces-end
joined-spellings a (Encoded w ∷ rest) h =
    ap joined (pieces-spelling w (spellings rest) h.0) ∙ ap (λ z. Encoded w ∷ z) (joined-spellings true rest h.1)
joined-spellings a (Clear t ∷ rest) h = joined-text t rest h.0 h.1 h.4 h.2 (joined-spellings false rest h.4)
joined-spellings a (Gap t ∷ rest) h =
    joined-text t rest h.1 (NoWord-gap t (spellings rest) h.2) h.4 (λ c. let e = c.2 in let w = h.3.2 in cc) (joined-spellings false rest h.4)

BeginsInWord-from : (rest : List Part) → begins_in_word (ungapped rest) ≡ true → BeginsInWord rest
BeginsInWord-from [] e = absurd (false≢true e)
BeginsInWord-from (Encoded w ∷ rest) e = (w, rest, refl)
BeginsInWord-from (Clear t ∷ rest) e = absurd (false≢true e)
BeginsInWord-from (Gap t ∷ rest) e = absurd (false≢true e)

begins-from_BeginsInWord : (rest : List Part) → BeginsInWord rest → begins_in_word (ungapped rest) ≡ true
begins-from_BeginsInWord rest h = ap (λ z. begins_in_word (ungapped z)) h.2

clear-named : (between : Bool) (t : List ℕ) → (between ≡ true → ¬ IsGapText t) → clear_or_gap between t ≡ Clear t
clear-named between t h = cond-false (between && list_all is_gap_byte t) (Gap t) (Clear t) (false_from_ne_true (between && list_all is_gap_byte t) (λ e.
    let p = and_parts between (list_all is_gap_byte t) e in
    h p.0 (AllPass-from_list_all is_gap_byte t p.1)))

gap-named : (between : Bool) (t : List ℕ) → between ≡ true → IsGapText t → clear_or_gap between t ≡ Gap t
gap-named between t e h = cond-true (between && list_all is_gap_byte t) (Gap t) (Clear t) (and_from between (list_all is_gap_byte t) e (list_all-from_AllPass is_gap_byte t h))

pub with_gaps-ungapped : (a : Bool) (parts : List Part) → Reads a parts → with_gaps a (ungapped parts) ≡ parts
with_gaps-ungapped a [] h = refl
with_gaps-ungapped a (Encoded w ∷ rest) h = ap (λ z. Encoded w ∷ z) (with_gaps-ungapped true rest h.1)
with_gaps-ungapped a (Clear t ∷ rest) h =
    let r = with_gaps-ungapped false rest h.4 in
    let e = clear-named (a && begins_in_word (ungapped rest)) t (λ b. let p = and_parts a (begins_in_word (ungapped rest)) b in h.3 p.0 (BeginsInWord-from rest p.1)) in
    λ i. e i ∷ r i
with_gaps-ungapped a (Gap t ∷ rest) h =
    let r = with_gaps-ungapped false rest h.4 in
    let e = gap-named (a && begins_in_word (ungapped rest)) t (and_from a (begins_in_word (ungapped rest)) h.0 (begins-from_BeginsInWord rest h.3)) h.2 in
    λ i. e i ∷ r i

-- the parts of a reading are the ones that `reading_of` gives
pub reading_of-spellings : (parts : List Part) → Reads false parts → reading_of (spellings parts) ≡ parts
unfolding reading_of
reading_of-spellings parts h = ap (with_gaps false) (joined-spellings false parts h) ∙ with_gaps-ungapped false parts h
