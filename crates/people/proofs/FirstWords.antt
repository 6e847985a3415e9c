-- The parts that are still to come, where a list is read from left to right.
use Rattle.std.proofs.Common.{◌≡◌, ℕ, ◌<◌, Bool, true, false, Some, None, List, [], ◌∷◌, ◌++◌, length, drop, refl, sym, ap, ◌∙◌}
use Rattle.std.proofs.lemmas.List.{append-nil}
use Rattle.people.specs.Reading.{Syntax, IsSyntax, Part, Encoded, joined, pieces_after, clear_or_gap, with_gaps, reading_of}
use Rattle.people.proofs.ByParts.{NoWord, NoWord-from}
use Rattle.people.proofs.Only.{pieces-clear, pieces-spelling, pieces-end, text_before, joined-clear, text_before-fresh}

-- text as parts: none where it is empty
abbrev pub text_parts : {W : Type 0} → Syntax W → Bool → List ℕ → List (Part W)
text_parts x between_words [] = []
text_parts x between_words (b ∷ text) = clear_or_gap x between_words (b ∷ text) ∷ []

module _ {W : Type 0} (x : Syntax W) where
  -- no word begins at a place before this one
  abbrev pub NoWordBefore : List ℕ → ℕ → Type 0
  NoWordBefore s at = (k : ℕ) → k < at → x.word_at (drop k s) ≡ None

  -- the parts of what is left of a list, where `after_word` tells whether a word stands before it
  abbrev pub parts_after : Bool → List ℕ → List (Part W)
  parts_after after_word rest = with_gaps x after_word (joined (pieces_after x 0 rest))

  pub parts_after-start : (s : List ℕ) → parts_after false s ≡ reading_of x s
  unfolding reading_of
  parts_after-start s = refl

  -- parts behind text in which no word begins
  joined-behind : (text more : List ℕ) → NoWord x text more → joined (pieces_after x 0 (text ++ more)) ≡ text_before x text (joined (pieces_after x 0 more))
  joined-behind text more h = ap joined (pieces-clear x text more h) ∙ joined-clear x text (pieces_after x 0 more)

  parts-before : (a : Bool) (text : List ℕ) (w : W) (rest : List (Part W))
      → with_gaps x a (text_before x text (Encoded w ∷ rest)) ≡ text_parts x a text ++ Encoded w ∷ with_gaps x true rest
  parts-before a [] w rest = refl
  parts-before true (b ∷ text) w rest = ap (with_gaps x true) (text_before-fresh x b text (Encoded w ∷ rest) (λ c. let e = c.2 in cc))
  parts-before false (b ∷ text) w rest = ap (with_gaps x false) (text_before-fresh x b text (Encoded w ∷ rest) (λ c. let e = c.2 in cc))

  parts-last : (a : Bool) (text : List ℕ) → with_gaps x a (text_before x text []) ≡ text_parts x false text
  parts-last a [] = refl
  parts-last true (b ∷ text) = ap (with_gaps x true) (text_before-fresh x b text [] (λ c. let e = c.2 in cc))
  parts-last false (b ∷ text) = ap (with_gaps x false) (text_before-fresh x b text [] (λ c. let e = c.2 in cc))

  -- the parts of what is left, where no word begins in it
  pub parts-end : (a : Bool) (s : List ℕ) → NoWordBefore s (length s) → parts_after a s ≡ text_parts x false s
  parts-end a s h =
      let none : NoWord x s [] = NoWord-from x s [] (λ k l. ap (λ z. x.word_at (drop k z)) (append-nil s) ∙ h k l) in
      ap (parts_after a) (sym (append-nil s)) ∙
      (ap (with_gaps x a) (joined-behind s [] none) ∙ (ap (λ z. with_gaps x a (text_before x s (joined z))) (pieces-end x) ∙ parts-last a s))

  module _ (is : IsSyntax x) where
    -- the parts of what is left, where its first word is known
    pub parts-word : (a : Bool) (s before : List ℕ) (w : W) (after : List ℕ) → s ≡ before ++ (x.spelling w ++ after) → x.word_at (x.spelling w ++ after) ≡ Some w
        → NoWordBefore s (length before) → parts_after a s ≡ text_parts x a before ++ Encoded w ∷ parts_after true after
    parts-word a s before w after whole found h =
        let more : List ℕ = x.spelling w ++ after in
        let none : NoWord x before more = NoWord-from x before more (λ k l. ap (λ z. x.word_at (drop k z)) (sym whole) ∙ h k l) in
        ap (parts_after a) whole ∙
        (ap (with_gaps x a) (joined-behind before more none) ∙
        (ap (λ z. with_gaps x a (text_before x before (joined z))) (pieces-spelling x is w after found) ∙
        parts-before a before w (joined (pieces_after x 0 after))))
