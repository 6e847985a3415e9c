-- What the fields found one after another say of the word at a place.
use Rattle.std.proofs.Common.{◌≡◌, ℕ, ◌-◌, true, false, nat_eq, Some, None, List, [], ◌∷◌, ◌++◌, length, take, drop, refl, sym, ap, ◌∙◌, subst, arith}
use Rattle.std.specs.Cmp.Lexicographic.{pointwise}
use Rattle.std.proofs.lemmas.Bool.{both_ways}
use Rattle.std.proofs.lemmas.List.{length-append, take-append-drop, take_at}
use Rattle.std.proofs.lemmas.Slice.Eq.{bytes_eq-Decides}
use Rattle.words.specs.Word.{Word, spelling, word_at, BeginsWith, IsField, IsText}
use Rattle.words.specs.Lexer.{SplitsAtMark}
use Rattle.words.proofs.Words.{NoMark, before-run, after-run, field-run, text-run, spelling-append, split-begins, begins-append, word_at-begins, no_word-from}
use Rattle.std.specs.List.{before_first, after_first}
use Rattle.words.specs.Word.{is_question_mark}

-- a list is cut at its first question mark in one way
cut-front : (s f g rest more : List ℕ) → NoMark f → NoMark g → SplitsAtMark s f rest → SplitsAtMark s g more → f ≡ g
cut-front s f g rest more nf ng a b =
    sym (before-run f rest nf) ∙ (ap (before_first is_question_mark) (sym a ∙ b) ∙ before-run g more ng)

cut-rest : (s f g rest more : List ℕ) → NoMark f → NoMark g → SplitsAtMark s f rest → SplitsAtMark s g more → rest ≡ more
cut-rest s f g rest more nf ng a b =
    sym (after-run f rest nf) ∙ (ap (after_first is_question_mark) (sym a ∙ b) ∙ after-run g more ng)

-- a list begins with `=` and a question mark, or with one byte
pub prefix-found : (s inside : List ℕ) → pointwise nat_eq (take 2 s) (61 ∷ 63 ∷ []) ≡ true → inside ≡ drop 2 s → s ≡ 61 ∷ 63 ∷ inside
prefix-found s inside t e =
    sym (take-append-drop 2 s) ∙ (ap (λ z. z ++ drop 2 s) ((bytes_eq-Decides (take 2 s) (61 ∷ 63 ∷ [])).0 t) ∙ ap (λ z. 61 ∷ 63 ∷ z) (sym e))

pub equals-found : (s after : List ℕ) → pointwise nat_eq (take 1 s) (61 ∷ []) ≡ true → after ≡ drop 1 s → s ≡ 61 ∷ after
equals-found s after t e =
    sym (take-append-drop 1 s) ∙ (ap (λ z. z ++ drop 1 s) ((bytes_eq-Decides (take 1 s) (61 ∷ [])).0 t) ∙ ap (λ z. 61 ∷ z) (sym e))

-- what a word that begins the list says of its bytes
begins-spells : (s : List ℕ) (w : Word) → BeginsWith s w → (more : List ℕ) × (s ≡ 61 ∷ 63 ∷ (w.charset ++ 63 ∷ (w.encoding ++ 63 ∷ (w.text ++ 63 ∷ 61 ∷ more))))
begins-spells s w h = let more = drop (length (spelling w)) s in (more, split-begins s w h ∙ spelling-append w more)

pub none-prefix : (s : List ℕ) → pointwise nat_eq (take 2 s) (61 ∷ 63 ∷ []) ≡ false → word_at s ≡ None
none-prefix s t = no_word-from s (λ w h.
    let b = begins-spells s w h in
    let e : take 2 s ≡ 61 ∷ 63 ∷ [] = ap (take 2) b.1 in
    both_ways (pointwise nat_eq (take 2 s) (61 ∷ 63 ∷ [])) t ((bytes_eq-Decides (take 2 s) (61 ∷ 63 ∷ [])).1 e))

module _ (s inside : List ℕ) (begun : s ≡ 61 ∷ 63 ∷ inside) where
  at-charset : (w : Word) → BeginsWith s w → (more : List ℕ) × (inside ≡ w.charset ++ 63 ∷ (w.encoding ++ 63 ∷ (w.text ++ 63 ∷ 61 ∷ more)))
  at-charset w h = let b = begins-spells s w h in (b.0, ap (drop 2) (sym begun ∙ b.1))

  pub none-charset : ((f rest : List ℕ) → IsField f → ¬ SplitsAtMark inside f rest) → word_at s ≡ None
  none-charset n = no_word-from s (λ w h.
      let b = at-charset w h in
      n w.charset (w.encoding ++ 63 ∷ (w.text ++ 63 ∷ 61 ∷ b.0)) h.word.charset b.1)

  module _ (c r1 : List ℕ) (is-c : IsField c) (cut-c : SplitsAtMark inside c r1) where
    at-encoding : (w : Word) → BeginsWith s w → (more : List ℕ) × (r1 ≡ w.encoding ++ 63 ∷ (w.text ++ 63 ∷ 61 ∷ more))
    at-encoding w h =
        let b = at-charset w h in
        (b.0, cut-rest inside c w.charset r1 (w.encoding ++ 63 ∷ (w.text ++ 63 ∷ 61 ∷ b.0)) (field-run c is-c) (field-run w.charset h.word.charset) cut-c b.1)

    pub none-encoding : ((f rest : List ℕ) → IsField f → ¬ SplitsAtMark r1 f rest) → word_at s ≡ None
    none-encoding n = no_word-from s (λ w h.
        let b = at-encoding w h in
        n w.encoding (w.text ++ 63 ∷ 61 ∷ b.0) h.word.encoding b.1)

    module _ (e r2 : List ℕ) (is-e : IsField e) (cut-e : SplitsAtMark r1 e r2) where
      at-text : (w : Word) → BeginsWith s w → (more : List ℕ) × (r2 ≡ w.text ++ 63 ∷ 61 ∷ more)
      at-text w h =
          let b = at-encoding w h in
          (b.0, cut-rest r1 e w.encoding r2 (w.text ++ 63 ∷ 61 ∷ b.0) (field-run e is-e) (field-run w.encoding h.word.encoding) cut-e b.1)

      pub none-text : ((t rest : List ℕ) → IsText t → ¬ SplitsAtMark r2 t rest) → word_at s ≡ None
      none-text n = no_word-from s (λ w h.
          let b = at-text w h in
          n w.text (61 ∷ b.0) h.word.text b.1)

      module _ (t r3 : List ℕ) (is-t : IsText t) (cut-t : SplitsAtMark r2 t r3) where
        at-end : (w : Word) → BeginsWith s w → (more : List ℕ) × (r3 ≡ 61 ∷ more)
        at-end w h =
            let b = at-text w h in
            (b.0, cut-rest r2 t w.text r3 (61 ∷ b.0) (text-run t is-t) (text-run w.text h.word.text) cut-t b.1)

        pub none-end : pointwise nat_eq (take 1 r3) (61 ∷ []) ≡ false → word_at s ≡ None
        none-end n = no_word-from s (λ w h.
            let b = at-end w h in
            let q : take 1 r3 ≡ 61 ∷ [] = ap (take 1) b.1 in
            both_ways (pointwise nat_eq (take 1 r3) (61 ∷ [])) n ((bytes_eq-Decides (take 1 r3) (61 ∷ [])).1 q))

        abbrev the-word : Word
        the-word = record { charset = c; encoding = e; text = t }

        module _ (after : List ℕ) (ended : r3 ≡ 61 ∷ after) where
          spelled : s ≡ spelling the-word ++ after
          spelled =
              begun ∙ (ap (λ z. 61 ∷ 63 ∷ z) (cut-c ∙ ap (λ z. c ++ 63 ∷ z) (cut-e ∙ ap (λ z. e ++ 63 ∷ z) (cut-t ∙ ap (λ z. t ++ 63 ∷ z) ended))) ∙
              sym (spelling-append the-word after))

          pub word-found : word_at s ≡ Some the-word
          word-found = word_at-begins s the-word (subst (λ z. BeginsWith z the-word) (sym spelled) (begins-append the-word after (record { charset = is-c; encoding = is-e; text = is-t })))

          pub spelling-found : take (length s - length after) s ≡ spelling the-word
          spelling-found =
              let n : length s - length after ≡ length (spelling the-word) = omega (arith, ap length spelled, length-append (spelling the-word) after) in
              ap (λ k. take k s) n ∙ (ap (take (length (spelling the-word))) spelled ∙ take_at (spelling the-word) after (length (spelling the-word)) refl)
