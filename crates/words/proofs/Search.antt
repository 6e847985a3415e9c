-- The first word of a list.
use Rattle.std.proofs.Common.{◌≡◌, ◌≢◌, ℕ, ◌+◌, ◌-◌, ◌<◌, ◌≤◌, inl, inr, true, ◌==◌, Some, None, List, ◌∷◌, ◌++◌, length, get_or, take, drop, sym, ap, ◌∙◌, subst, arith, eq-eqb, below_more}
use Rattle.std.proofs.lemmas.Bool.{cases_lt}
use Rattle.std.proofs.lemmas.List.{drop_more, drop-drop, get_or-drop, length-drop, length-append, length-take-le, take-append-drop, take_rest}
use Rattle.words.specs.Word.{Word, spelling, word_at}
use Rattle.words.specs.Lexer.{NoWordBefore, IsFirstWord}
use Rattle.words.proofs.Words.{begins-word_at, split-begins, no_word-from}
use Rattle.words.proofs.Unique.{spelling-long}

-- a word begins with `=` alone
no_word-other : (b : ℕ) (rest : List ℕ) → b ≢ 61 → word_at (b ∷ rest) ≡ None
no_word-other b rest h = no_word-from (b ∷ rest) (λ w begins.
    let r : List ℕ = spelling w ++ drop (length (spelling w)) (b ∷ rest) in
    let e : b ∷ rest ≡ 61 ∷ drop 1 r = split-begins (b ∷ rest) w begins in
    let q : b ≡ 61 = cc in
    h q)

-- no word begins where no `=` stands
pub no_word-skipped : (s : List ℕ) (at : ℕ) (hay : List ℕ) (m : ℕ) → hay ≡ drop at s → at + m ≤ length s → NoWordBefore s at
    → ((k : ℕ) → 0 ≤ k → k < m → ¬ ((get_or hay k 0 == 61) ≡ true)) → NoWordBefore s (at + m)
no_word-skipped s at hay m h within none quiet k l =
    elim (cases_lt k at) [
      | inl before ↦ none k before
      | inr after ↦
          let j : ℕ = k - at in
          let place : at + j ≡ k = omega arith in
          let byte : get_or hay j 0 ≡ get_or s k 0 = ap (λ z. get_or z j 0) h ∙ (get_or-drop at s j 0 ∙ ap (λ n. get_or s n 0) place) in
          ap word_at (drop_more s k 0 (omega arith)) ∙ no_word-other (get_or s k 0) (drop (k + 1) s) (λ e. quiet j (omega arith) (omega arith) (eq-eqb (get_or hay j 0) 61 (byte ∙ e)))
    ]

-- the place of an `=` that was found behind this one
pub skipped-within : (s : List ℕ) (at m : ℕ) → at ≤ length s → m < length (take (length s - at) (drop at s)) → at + m < length s
skipped-within s at m h l = omega (arith, length-drop at s, ap length (take_rest s at))

-- no word begins before this place, nor at it
pub no_word-next : (s : List ℕ) (n : ℕ) → NoWordBefore s n → word_at (drop n s) ≡ None → NoWordBefore s (n + 1)
no_word-next s n none here = below_more (λ k. word_at (drop k s) ≡ None) n none here

-- the word at a place stands within the list
pub word-within : (s : List ℕ) (n : ℕ) (w : Word) → word_at (drop n s) ≡ Some w → n + length (spelling w) ≤ length s
word-within s n w e =
    let b = split-begins (drop n s) w (begins-word_at (drop n s) w e) in
    omega (arith, ap length b, length-append (spelling w) (drop (length (spelling w)) (drop n s)), length-drop n s, spelling-long w)

pub first_word-found : (s : List ℕ) (n : ℕ) (w : Word) → NoWordBefore s n → word_at (drop n s) ≡ Some w → IsFirstWord s (take n s) w (drop (n + length (spelling w)) s)
first_word-found s n w none e =
    let after : drop (length (spelling w)) (drop n s) ≡ drop (n + length (spelling w)) s = drop-drop (length (spelling w)) n s in
    let split : drop n s ≡ spelling w ++ drop (n + length (spelling w)) s = split-begins (drop n s) w (begins-word_at (drop n s) w e) ∙ ap (λ z. spelling w ++ z) after in
    let within = word-within s n w e in
    record {
      whole = sym (take-append-drop n s) ∙ ap (λ z. take n s ++ z) split;
      found = ap word_at (sym split) ∙ e;
      none_before = subst (NoWordBefore s) (sym (length-take-le n s (omega arith))) none;
    }
