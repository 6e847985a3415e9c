-- The trimmed lines of a text, with one octet after another put before it.
use Rattle.std.proofs.Common.{◌≡◌, ℕ, suc, ◌+◌, ◌-◌, ◌<◌, Bool, true, false, cond, eqb, List, [], ◌∷◌, map, length, take, reverse, refl, ap, sym, ◌∙◌, arith}
use Rattle.std.specs.List.{suffix_len, prefix_len, onto_first}
use Rattle.std.proofs.lemmas.Bool.{eqb-true, eqb-false}
use Rattle.std.proofs.lemmas.List.{reverse-append, length-reverse, length-take-le}
use Rattle.std.proofs.lemmas.List.Folds.{prefix_len-append}
use Rattle.std.proofs.lemmas.List.Sums.{suffix_len-le-length}
use Rattle.qp.specs.Text.{is_line_padding, trimmed, lines}

-- a trimmed line with an octet put before it
abbrev pub trim_onto : ℕ → List ℕ → List ℕ
trim_onto b [] = cond (is_line_padding b) [] (b ∷ [])
trim_onto b (x ∷ xs) = b ∷ x ∷ xs

trim_onto-some : (b : ℕ) (t : List ℕ) → 0 < length t → trim_onto b t ≡ b ∷ t
trim_onto-some b [] h = absurd (omega arith)
trim_onto-some b (x ∷ xs) h = refl

suffix_len-cons : (b : ℕ) (line : List ℕ) → suffix_len is_line_padding (b ∷ line)
    ≡ cond (eqb (suffix_len is_line_padding line) (length line)) (length line + cond (is_line_padding b) 1 0) (suffix_len is_line_padding line)
suffix_len-cons b line =
    ap (prefix_len is_line_padding) (reverse-append (b ∷ []) line)
    ∙ prefix_len-append is_line_padding (reverse line) (b ∷ [])
    ∙ ap (λ n. cond (eqb (suffix_len is_line_padding line) n) (n + cond (is_line_padding b) 1 0) (suffix_len is_line_padding line)) (length-reverse line)

pub trimmed-cons : (b : ℕ) (line : List ℕ) → trimmed (b ∷ line) ≡ trim_onto b (trimmed line)
unfolding trimmed
trimmed-cons b line = by_all (eqb (suffix_len is_line_padding line) (length line)) refl
  where
    by_all : (all : Bool) → eqb (suffix_len is_line_padding line) (length line) ≡ all
        → take (length (b ∷ line) - suffix_len is_line_padding (b ∷ line)) (b ∷ line) ≡ trim_onto b (take (length line - suffix_len is_line_padding line) line)
    by_all true e = by_padding (is_line_padding b) refl
      where
        whole : suffix_len is_line_padding line ≡ length line
        whole = eqb-true (suffix_len is_line_padding line) (length line) e

        nothing : take (length line - suffix_len is_line_padding line) line ≡ []
        nothing = let none : length line - suffix_len is_line_padding line ≡ 0 = omega (arith, whole) in ap (λ n. take n line) none

        by_padding : (p : Bool) → is_line_padding b ≡ p
            → take (length (b ∷ line) - suffix_len is_line_padding (b ∷ line)) (b ∷ line) ≡ trim_onto b (take (length line - suffix_len is_line_padding line) line)
        by_padding true f =
            let n : length (b ∷ line) - suffix_len is_line_padding (b ∷ line) ≡ 0 = rw (suffix_len-cons b line, e, f) (omega arith) in
            ap (λ n. take n (b ∷ line)) n ∙ sym (ap (trim_onto b) nothing ∙ ap (λ p. cond p [] (b ∷ [])) f)
        by_padding false f =
            let n : length (b ∷ line) - suffix_len is_line_padding (b ∷ line) ≡ 1 = rw (suffix_len-cons b line, e, f) (omega arith) in
            ap (λ n. take n (b ∷ line)) n ∙ sym (ap (trim_onto b) nothing ∙ ap (λ p. cond p [] (b ∷ [])) f)
    by_all false e =
        let some : ¬ (suffix_len is_line_padding line ≡ length line) = eqb-false (suffix_len is_line_padding line) (length line) e in
        let most = suffix_len-le-length is_line_padding line in
        let n : length (b ∷ line) - suffix_len is_line_padding (b ∷ line) ≡ suc (length line - suffix_len is_line_padding line) = rw (suffix_len-cons b line, e) (omega arith) in
        ap (λ n. take n (b ∷ line)) n ∙ sym (trim_onto-some b (take (length line - suffix_len is_line_padding line) line) (omega (arith, length-take-le (length line - suffix_len is_line_padding line) line (omega arith))))

-- the trimmed lines of a text
unfoldable pub stripped : List ℕ → List (List ℕ)
stripped text = map trimmed (lines text)

-- trimmed lines with an octet put before the first
abbrev pub strip_onto : ℕ → List (List ℕ) → List (List ℕ)
strip_onto b [] = trim_onto b [] ∷ []
strip_onto b (line ∷ rest) = trim_onto b line ∷ rest

pub trimmed-none : trimmed [] ≡ []
unfolding trimmed
trimmed-none = refl

map-onto_first : (b : ℕ) (ls : List (List ℕ)) → map trimmed (onto_first b ls) ≡ strip_onto b (map trimmed ls)
map-onto_first b [] = ap (λ t. t ∷ []) (trimmed-cons b []) ∙ ap (λ t. trim_onto b t ∷ []) trimmed-none
map-onto_first b (line ∷ rest) = ap (λ t. t ∷ map trimmed rest) (trimmed-cons b line)

pub stripped-other : (b : ℕ) (text : List ℕ) → eqb b 10 ≡ false → stripped (b ∷ text) ≡ strip_onto b (stripped text)
unfolding stripped lines
stripped-other b text h = rw h (map-onto_first b (lines text))

pub stripped-feed : (text : List ℕ) → stripped (10 ∷ text) ≡ [] ∷ stripped text
unfolding stripped lines trimmed
stripped-feed text = refl

pub stripped-none : stripped [] ≡ [] ∷ []
unfolding stripped lines trimmed
stripped-none = refl
