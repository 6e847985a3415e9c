-- The tokens that are still to come, where a header is read from left to right.
use Rattle.std.proofs.Common.{◌≡◌, ℕ, suc, Bool, true, false, ◌&&◌, cond, List, [], ◌∷◌, ◌++◌, length, refl, sym, ap, ◌∙◌, subst, arith, append_assoc}
use Rattle.std.specs.List.{flat_map, list_all}
use Rattle.std.proofs.lemmas.Grind.{flat_map-append}
use Rattle.std.proofs.lemmas.List.{append-nil}
use Rattle.words.specs.declared.strategy.RecoverStrategy.{RecoverStrategy}
use Rattle.words.specs.declared.strategy.RecoverStrategy.TheVariants.{Decode, Skip, Abort}
use Rattle.words.specs.Word.{Word, spelling}
use Rattle.words.specs.Reading.{Part, Encoded, Clear, Gap, is_gap_byte, joined, pieces_after, clear_or_gap, with_gaps, reading_of}
use Rattle.words.specs.Tokens.{long_word, long_words, too_long_words, part_tokens, tokens_of}
use Rattle.words.specs.Lexer.{NoWordBefore, IsFirstWord, text_tokens}
use Rattle.words.proofs.Words.{begins-word_at}
use Rattle.words.proofs.ByParts.{NoWord}
use Rattle.words.proofs.Unique.{pieces-clear, pieces-spelling, pieces-end, text_before, joined-clear, text_before-fresh}

-- the parts of what is left of a header, where `after_word` tells whether a word stands before it
abbrev pub parts_after : Bool → List ℕ → List Part
parts_after after_word rest = with_gaps after_word (joined (pieces_after 0 rest))

pub parts_after-start : (s : List ℕ) → parts_after false s ≡ reading_of s
unfolding reading_of
parts_after-start s = refl

NoWord-from_before : (text more : List ℕ) → NoWordBefore (text ++ more) (length text) → NoWord text more
NoWord-from_before [] more h = tt
NoWord-from_before (b ∷ text) more h = (h 0 (omega arith), NoWord-from_before text more (λ k l. h (suc k) (omega arith)))

-- parts behind text in which no word begins
joined-behind : (text more : List ℕ) → NoWord text more → joined (pieces_after 0 (text ++ more)) ≡ text_before text (joined (pieces_after 0 more))
joined-behind text more h = ap joined (pieces-clear text more h) ∙ joined-clear text (pieces_after 0 more)

one-part : (strategy : RecoverStrategy) (t : Bool) (text : List ℕ) → flat_map (part_tokens strategy) (cond t (Gap text) (Clear text) ∷ []) ≡ cond t [] (Clear text ∷ [])
one-part strategy true text = refl
one-part strategy false text = refl

between-tokens : (strategy : RecoverStrategy) (a : Bool) (b : ℕ) (text : List ℕ)
    → tokens_of strategy (clear_or_gap (a && true) (b ∷ text) ∷ []) ≡ text_tokens a (b ∷ text)
between-tokens strategy true b text = one-part strategy (list_all is_gap_byte (b ∷ text)) (b ∷ text)
between-tokens strategy false b text = refl

tokens-before : (strategy : RecoverStrategy) (a : Bool) (text : List ℕ) (w : Word) (rest : List Part)
    → tokens_of strategy (with_gaps a (text_before text (Encoded w ∷ rest))) ≡ text_tokens a text ++ (part_tokens strategy (Encoded w) ++ tokens_of strategy (with_gaps true rest))
tokens-before strategy a [] w rest = refl
tokens-before strategy a (b ∷ text) w rest =
    let more : List Part = Encoded w ∷ with_gaps true rest in
    ap (λ z. tokens_of strategy (with_gaps a z)) (text_before-fresh b text (Encoded w ∷ rest) (λ c. let e = c.2 in cc)) ∙
    (flat_map-append (part_tokens strategy) (clear_or_gap (a && true) (b ∷ text) ∷ []) more ∙
    ap (λ z. z ++ tokens_of strategy more) (between-tokens strategy a b text))

-- the tokens of what is left, where its first word is known
pub tokens-word : (strategy : RecoverStrategy) (a : Bool) (s before : List ℕ) (w : Word) (after : List ℕ) → IsFirstWord s before w after
    → tokens_of strategy (parts_after a s) ≡ text_tokens a before ++ (part_tokens strategy (Encoded w) ++ tokens_of strategy (parts_after true after))
tokens-word strategy a s before w after h =
    let more : List ℕ = spelling w ++ after in
    let none : NoWord before more = NoWord-from_before before more (subst (λ z. NoWordBefore z (length before)) h.whole h.none_before) in
    ap (λ z. tokens_of strategy (parts_after a z)) h.whole ∙
    (ap (λ z. tokens_of strategy (with_gaps a z)) (joined-behind before more none) ∙
    (ap (λ z. tokens_of strategy (with_gaps a (text_before before (joined z)))) (pieces-spelling w after (begins-word_at more w h.found).word) ∙
    tokens-before strategy a before w (joined (pieces_after 0 after))))

tokens-last : (strategy : RecoverStrategy) (a : Bool) (text : List ℕ) → tokens_of strategy (with_gaps a (text_before text [])) ≡ text_tokens false text
tokens-last strategy a [] = refl
tokens-last strategy true (b ∷ text) = ap (λ z. tokens_of strategy (with_gaps true z)) (text_before-fresh b text [] (λ c. let e = c.2 in cc))
tokens-last strategy false (b ∷ text) = ap (λ z. tokens_of strategy (with_gaps false z)) (text_before-fresh b text [] (λ c. let e = c.2 in cc))

-- the tokens of what is left, where no word begins in it
pub tokens-end : (strategy : RecoverStrategy) (a : Bool) (s : List ℕ) → NoWordBefore s (length s) → tokens_of strategy (parts_after a s) ≡ text_tokens false s
tokens-end strategy a s h =
    let none : NoWord s [] = NoWord-from_before s [] (subst (λ z. NoWordBefore z (length s)) (sym (append-nil s)) h) in
    ap (λ z. tokens_of strategy (parts_after a z)) (sym (append-nil s)) ∙
    (ap (λ z. tokens_of strategy (with_gaps a z)) (joined-behind s [] none) ∙
    (ap (λ z. tokens_of strategy (with_gaps a (text_before s (joined z)))) pieces-end ∙ tokens-last strategy a s))

-- a turn of the loop over the words: the tokens so far, and those of what is left
pub tokens-turn : (strategy : RecoverStrategy) (a : Bool) (s before : List ℕ) (w : Word) (after : List ℕ) (sofar with_text with_word whole : List Part)
    → IsFirstWord s before w after → with_text ≡ sofar ++ text_tokens a before → with_word ≡ with_text ++ part_tokens strategy (Encoded w)
    → sofar ++ tokens_of strategy (parts_after a s) ≡ whole → with_word ++ tokens_of strategy (parts_after true after) ≡ whole
tokens-turn strategy a s before w after sofar with_text with_word whole h t v e =
    let later : List Part = tokens_of strategy (parts_after true after) in
    let one : List Part = part_tokens strategy (Encoded w) in
    ap (λ z. z ++ later) (v ∙ ap (λ z. z ++ one) t) ∙
    (append_assoc (sofar ++ text_tokens a before) one later ∙ (append_assoc sofar (text_tokens a before) (one ++ later) ∙
    (ap (λ z. sofar ++ z) (sym (tokens-word strategy a s before w after h)) ∙ e)))

-- where no word is skipped, the tokens have the words of the parts
long_words-tokens : (parts : List Part) → long_words (tokens_of Abort parts) ≡ long_words parts
long_words-tokens [] = refl
long_words-tokens (Encoded w ∷ rest) = ap (λ z. long_word (Encoded w) ++ z) (long_words-tokens rest)
long_words-tokens (Clear text ∷ rest) = long_words-tokens rest
long_words-tokens (Gap text ∷ rest) = long_words-tokens rest

-- the words for which a header is refused are those for which its tokens are
pub too_long_words-tokens : (strategy : RecoverStrategy) (parts : List Part) → too_long_words strategy (tokens_of strategy parts) ≡ too_long_words strategy parts
too_long_words-tokens Decode parts = refl
too_long_words-tokens Skip parts = refl
too_long_words-tokens Abort parts = long_words-tokens parts
