-- A value without its folds, line by line.
use Rattle.std.proofs.Common.{◌≡◌, ℕ, ◌+◌, ◌-◌, ◌<◌, nat_lt, length, take, slice_index, arith, Bool, true, false, ◌==◌, ◌&&◌, ◌||◌, cond, List, [], ◌∷◌, ◌++◌, refl, sym, ap, ◌∙◌}
use Rattle.std.proofs.Math.Bool.{and-false}
use Rattle.std.proofs.lemmas.Bool.{and_parts, eqb-true, ltb-true, lt-ltb, cond-true, cond-false}
use Rattle.std.proofs.lemmas.List.{take_all, take_more}
use Rattle.people.specs.Unfolded.{begins_blank, begins_fold, is_folding, unfolded, without_return}
use Rattle.people.proofs.Bytes.{HasNone}

abbrev pub is_line_end : ℕ → Bool
is_line_end b = b == 10

keeps : (b : ℕ) (rest : List ℕ) → is_folding b rest ≡ false → unfolded (b ∷ rest) ≡ b ∷ unfolded rest
unfolding unfolded
keeps b rest e = cond-false (is_folding b rest) (unfolded rest) (b ∷ unfolded rest) e

drops : (b : ℕ) (rest : List ℕ) → is_folding b rest ≡ true → unfolded (b ∷ rest) ≡ unfolded rest
unfolding unfolded
drops b rest e = cond-true (is_folding b rest) (unfolded rest) (b ∷ unfolded rest) e

is-other : (b : ℕ) (rest : List ℕ) → (b == 10) ≡ false → begins_fold rest ≡ false → is_folding b rest ≡ false
is-other b rest e f =
    ap (λ t. (t && begins_blank rest) || (b == 13 && begins_fold rest)) e ∙ (ap (λ t. (b == 13) && t) f ∙ and-false (b == 13))

-- text without an LF stays
pub unfolded-text : (text : List ℕ) → HasNone is_line_end text → unfolded text ≡ text
unfolding unfolded
unfolded-text [] h = refl
unfolded-text (b ∷ []) h = keeps b [] (is-other b [] h.0 refl)
unfolded-text (b ∷ c ∷ rest) h =
    keeps b (c ∷ rest) (is-other b (c ∷ rest) h.0 (ap (λ t. t && begins_blank rest) h.1.0)) ∙ ap (λ z. b ∷ z) (unfolded-text (c ∷ rest) h.1)

-- an LF that ends a line, and one that is a fold's
line-end : (after : List ℕ) → begins_blank after ≡ false → unfolded (10 ∷ after) ≡ 10 ∷ unfolded after
line-end after e = keeps 10 after (ap (λ t. t || false) e)

fold-end : (after : List ℕ) → begins_blank after ≡ true → unfolded (10 ∷ after) ≡ unfolded after
fold-end after e = drops 10 after (ap (λ t. t || false) e)

pub unfolded-line : (text after : List ℕ) → HasNone is_line_end text → begins_blank after ≡ false → unfolded (text ++ 10 ∷ after) ≡ (text ++ 10 ∷ []) ++ unfolded after
unfolding unfolded
unfolded-line [] after h e = line-end after e
unfolded-line (b ∷ []) after h e =
    keeps b (10 ∷ after) (is-other b (10 ∷ after) h.0 e) ∙ ap (λ z. b ∷ z) (line-end after e)
unfolded-line (b ∷ c ∷ rest) after h e =
    keeps b (c ∷ (rest ++ 10 ∷ after)) (is-other b (c ∷ (rest ++ 10 ∷ after)) h.0 (ap (λ t. t && begins_blank (rest ++ 10 ∷ after)) h.1.0)) ∙ ap (λ z. b ∷ z) (unfolded-line (c ∷ rest) after h.1 e)

before-fold : (b : ℕ) (after : List ℕ) → (b == 10) ≡ false → begins_blank after ≡ true → (t : Bool) → (b == 13) ≡ t → unfolded (b ∷ 10 ∷ after) ≡ cond t [] (b ∷ []) ++ unfolded after
before-fold b after n e true t =
    drops b (10 ∷ after) (ap (λ u. (u && begins_blank (10 ∷ after)) || (b == 13 && begins_fold (10 ∷ after))) n ∙ (ap (λ u. u && begins_fold (10 ∷ after)) t ∙ e)) ∙ fold-end after e
before-fold b after n e false t =
    keeps b (10 ∷ after) (ap (λ u. (u && begins_blank (10 ∷ after)) || (b == 13 && begins_fold (10 ∷ after))) n ∙ ap (λ u. u && begins_fold (10 ∷ after)) t) ∙ ap (λ z. b ∷ z) (fold-end after e)

pub unfolded-fold : (text after : List ℕ) → HasNone is_line_end text → begins_blank after ≡ true → unfolded (text ++ 10 ∷ after) ≡ without_return text ++ unfolded after
unfolding unfolded
unfolded-fold [] after h e = fold-end after e
unfolded-fold (b ∷ []) after h e = before-fold b after h.0 e (b == 13) refl
unfolded-fold (b ∷ c ∷ rest) after h e =
    keeps b (c ∷ (rest ++ 10 ∷ after)) (is-other b (c ∷ (rest ++ 10 ∷ after)) h.0 (ap (λ t. t && begins_blank (rest ++ 10 ∷ after)) h.1.0)) ∙ ap (λ z. b ∷ z) (unfolded-fold (c ∷ rest) after h.1 e)

-- what is left where one CR is taken, or none
pub without_return-return : (front : List ℕ) → without_return (front ++ 13 ∷ []) ≡ front
without_return-return [] = refl
without_return-return (b ∷ []) = refl
without_return-return (b ∷ c ∷ rest) = ap (λ z. b ∷ z) (without_return-return (c ∷ rest))

pub without_return-other : (front : List ℕ) (b : ℕ) → (b == 13) ≡ false → without_return (front ++ b ∷ []) ≡ front ++ b ∷ []
without_return-other [] b e = cond-false (b == 13) [] (b ∷ []) e
without_return-other (c ∷ []) b e = ap (λ z. c ∷ z) (without_return-other [] b e)
without_return-other (c ∷ d ∷ rest) b e = ap (λ z. c ∷ z) (without_return-other (d ∷ rest) b e)

-- the same, by the test of the last byte
ends-in : (text : List ℕ) → (nat_lt 0 (length text) && slice_index text (length text - 1) == 13) ≡ true → text ≡ take (length text - 1) text ++ 13 ∷ []
ends-in text e =
    let p = and_parts (nat_lt 0 (length text)) (slice_index text (length text - 1) == 13) e in
    let l : length text - 1 < length text = let h = ltb-true 0 (length text) p.0 in omega arith in
    let n : length text - 1 + 1 ≡ length text = omega arith in
    sym (take_all (length text) text (omega arith)) ∙ ap (λ k. take k text) (sym n) ∙ take_more text (length text - 1) 0 l
    ∙ ap (λ z. take (length text - 1) text ++ z ∷ []) (eqb-true (slice_index text (length text - 1)) 13 p.1)

pub without_return-taken : (text : List ℕ) → (nat_lt 0 (length text) && slice_index text (length text - 1) == 13) ≡ true → take (length text - 1) text ≡ without_return text
without_return-taken text e = sym (ap without_return (ends-in text e) ∙ without_return-return (take (length text - 1) text))

second : (t u : Bool) → t ≡ true → (t && u) ≡ false → u ≡ false
second true u h e = e
second false u h e = absurd (cc)

pub without_return-same : (text : List ℕ) → (nat_lt 0 (length text) && slice_index text (length text - 1) == 13) ≡ false → text ≡ without_return text
without_return-same [] e = refl
without_return-same (b ∷ text) e =
    let all : List ℕ = b ∷ text in
    let l : length all - 1 < length all = omega arith in
    let n : length all - 1 + 1 ≡ length all = omega arith in
    let other : (slice_index all (length all - 1) == 13) ≡ false =
    second (nat_lt 0 (length all)) (slice_index all (length all - 1) == 13) (lt-ltb 0 (length all) (omega arith)) e in
    let split : all ≡ take (length all - 1) all ++ slice_index all (length all - 1) ∷ [] =
    sym (take_all (length all) all (omega arith)) ∙ ap (λ k. take k all) (sym n) ∙ take_more all (length all - 1) 0 l in
    split ∙ sym (ap without_return split ∙ without_return-other (take (length all - 1) all) (slice_index all (length all - 1)) other)
