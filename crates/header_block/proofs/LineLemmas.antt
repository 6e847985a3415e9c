-- Lines of a text whose front is known.
use Rattle.std.proofs.Common.{◌≡◌, ℕ, zero, suc, ◌-◌, ◌<◌, ◌≤◌, Bool, true, false, cond, eqb, List, [], ◌∷◌, ◌++◌, length, get_or, take, refl, ap, ◌∙◌, arith}
use Rattle.std.proofs.lemmas.Bool.{or_from, or_parts, cond-false, false_from_ne_true, eq-eqb, ne_eqb}
use Rattle.std.specs.Prelude.{map}
use Rattle.header_block.specs.Lines.{onto_first, lf_parts, without_last_cr, text_lines, has_lf}

-- no place has an LF
pub has_lf-none : (bytes : List ℕ) → ((k : ℕ) → k < length bytes → eqb (get_or bytes k 0) 10 ≡ true → ⊥) → has_lf bytes ≡ false
has_lf-none [] h = refl
has_lf-none (b ∷ bytes) h = or_from (eqb b 10) (has_lf bytes) (false_from_ne_true (eqb b 10) (h 0 (omega arith))) (has_lf-none bytes (λ k l e. h (suc k) (omega arith) e))

pub has_lf-append : (front rest : List ℕ) → has_lf front ≡ false → has_lf rest ≡ false → has_lf (front ++ rest) ≡ false
has_lf-append [] rest p q = q
has_lf-append (b ∷ front) rest p q =
    let h = or_parts (eqb b 10) (has_lf front) p in or_from (eqb b 10) (has_lf (front ++ rest)) h.0 (has_lf-append front rest h.1 q)

-- a byte that is no LF stands in the first part
parts-cons : (b : ℕ) (bytes : List ℕ) → eqb b 10 ≡ false → lf_parts (b ∷ bytes) ≡ onto_first b (lf_parts bytes)
parts-cons b bytes e = cond-false (eqb b 10) ([] ∷ lf_parts bytes) (onto_first b (lf_parts bytes)) e

-- the part that an LF ends
pub parts-lf : (front rest : List ℕ) → has_lf front ≡ false → lf_parts (front ++ 10 ∷ rest) ≡ front ∷ lf_parts rest
parts-lf [] rest p = refl
parts-lf (b ∷ front) rest p =
    let h = or_parts (eqb b 10) (has_lf front) p in parts-cons b (front ++ 10 ∷ rest) h.0 ∙ ap (onto_first b) (parts-lf front rest h.1)

-- the last part, which no LF ends
pub parts-last : (b : ℕ) (front : List ℕ) → has_lf (b ∷ front) ≡ false → lf_parts (b ∷ front) ≡ (b ∷ front) ∷ []
parts-last b [] p = let h = or_parts (eqb b 10) false p in parts-cons b [] h.0
parts-last b (c ∷ front) p =
    let h = or_parts (eqb b 10) (has_lf (c ∷ front)) p in parts-cons b (c ∷ front) h.0 ∙ ap (onto_first b) (parts-last c front h.1)

first_onto : (b : ℕ) (rest : List (List ℕ)) → (more : List ℕ) × (others : List (List ℕ)) × (onto_first b rest ≡ (b ∷ more) ∷ others)
first_onto b [] = ([], [], refl)
first_onto b (part ∷ rest) = (part, rest, refl)

-- the first part goes on from a front without LF
pub parts-front : (b : ℕ) (front rest : List ℕ) → has_lf (b ∷ front) ≡ false → (more : List ℕ) × (others : List (List ℕ)) × (lf_parts (b ∷ (front ++ rest)) ≡ (b ∷ (front ++ more)) ∷ others)
parts-front b [] rest p =
    let h = or_parts (eqb b 10) false p in
    let first = first_onto b (lf_parts rest) in (first.0, first.1, parts-cons b rest h.0 ∙ first.2)
parts-front b (c ∷ front) rest p =
    let h = or_parts (eqb b 10) (has_lf (c ∷ front)) p in
    let first = parts-front c front rest h.1 in (first.0, first.1, parts-cons b (c ∷ (front ++ rest)) h.0 ∙ ap (onto_first b) first.2)

-- a part that ends in CR
pub without_last_cr-cut : (bytes : List ℕ) (n : ℕ) → length bytes ≡ suc n → get_or bytes n 0 ≡ 13 → take n bytes ≡ without_last_cr bytes
without_last_cr-cut [] n l e = absurd (omega arith)
without_last_cr-cut (b ∷ []) zero l e = rw (eq-eqb b 13 e) refl
without_last_cr-cut (b ∷ []) (suc n) l e = absurd (omega arith)
without_last_cr-cut (b ∷ c ∷ bytes) zero l e = absurd (omega arith)
without_last_cr-cut (b ∷ c ∷ bytes) (suc n) l e = ap (λ t. b ∷ t) (without_last_cr-cut (c ∷ bytes) n (omega arith) e)

-- a part that doesn't
pub without_last_cr-kept : (bytes : List ℕ) → ((n : ℕ) → length bytes ≡ suc n → get_or bytes n 0 ≡ 13 → ⊥) → bytes ≡ without_last_cr bytes
without_last_cr-kept [] h = refl
without_last_cr-kept (b ∷ []) h = rw (ne_eqb b 13 (h 0 refl)) refl
without_last_cr-kept (b ∷ c ∷ bytes) h = ap (λ t. b ∷ t) (without_last_cr-kept (c ∷ bytes) (λ n l e. h (suc n) (omega arith) e))

cond_short : (t : Bool) (b : ℕ) → length (cond t [] (b ∷ [])) ≤ 1
cond_short true b = omega arith
cond_short false b = omega arith

pub length-without_last_cr : (bytes : List ℕ) → length (without_last_cr bytes) ≤ length bytes
length-without_last_cr [] = omega arith
length-without_last_cr (b ∷ []) = cond_short (eqb b 13) b
length-without_last_cr (b ∷ c ∷ bytes) = omega (arith, length-without_last_cr (c ∷ bytes))

-- a part that goes on is no shorter, whether a CR at the front's end stays in it or not
pub longer_part : (front more : List ℕ) → length (without_last_cr front) ≤ length (without_last_cr (front ++ more))
longer_part [] more = omega arith
longer_part (b ∷ []) [] = omega arith
longer_part (b ∷ []) (c ∷ more) = omega (arith, cond_short (eqb b 13) b)
longer_part (b ∷ c ∷ front) more = omega (arith, longer_part (c ∷ front) more)

-- the line that an LF ends, and the last one, which none ends
pub lines-lf : (front rest : List ℕ) → has_lf front ≡ false → text_lines (front ++ 10 ∷ rest) ≡ without_last_cr front ∷ text_lines rest
lines-lf front rest p = ap (map without_last_cr) (parts-lf front rest p)

pub lines-last : (front : List ℕ) → 0 < length front → has_lf front ≡ false → text_lines front ≡ without_last_cr front ∷ []
lines-last [] l p = absurd (omega arith)
lines-last (b ∷ front) l p = ap (map without_last_cr) (parts-last b front p)

-- the byte before the end
pub content_cut : (line : List ℕ) → 0 < length line → get_or line (length line - 1) 0 ≡ 13 → take (length line - 1) line ≡ without_last_cr line
content_cut line l e = without_last_cr-cut line (length line - 1) (omega arith) e

pub content_kept : (line : List ℕ) → (0 < length line → get_or line (length line - 1) 0 ≡ 13 → ⊥) → line ≡ without_last_cr line
content_kept line h = without_last_cr-kept line (λ n l e. h (omega arith) (let m : length line - 1 ≡ n = omega arith in ap (λ k. get_or line k 0) m ∙ e))
