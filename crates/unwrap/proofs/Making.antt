-- How a header grows by a part.
use Rattle.std.proofs.Common.{◌≡◌, ℕ, ◌+◌, ◌==◌, List, [], ◌∷◌, ◌++◌, length, map, refl, sym, ap, ◌∙◌, append_assoc, arith, suc}
use Rattle.std.proofs.lemmas.Bool.Decides.{nat_tests}
use Rattle.std.specs.Prelude.{if◌then◌else◌}
use Rattle.std.specs.List.{join_with_byte, range_with_len}
use Rattle.std.proofs.lemmas.List.FromFn.{length-map-range_with_len, map-range_with_len_more}
use Rattle.unwrap.specs.Made.{made, part, separator}

join-push : (c : ℕ) (xs : List (List ℕ)) (x : List ℕ) → join_with_byte c (xs ++ x ∷ []) ≡ (join_with_byte c xs ++ (if length xs == 0 then [] else c ∷ [])) ++ x
join-push c [] x = refl
join-push c (y ∷ []) x = sym (append_assoc y (c ∷ []) x)
join-push c (y ∷ z ∷ xs) x =
    let whole = join_with_byte c (z ∷ xs) in
    let more : join_with_byte c ((z ∷ xs) ++ x ∷ []) ≡ (whole ++ c ∷ []) ++ x = join-push c (z ∷ xs) x ∙ ap (λ l. (whole ++ l) ++ x) (some (length xs)) in
    ap (λ l. y ++ c ∷ l) more
    ∙ sym (append_assoc y (c ∷ (whole ++ c ∷ [])) x)
    ∙ ap (λ l. l ++ x) (sym (append_assoc y (c ∷ whole) (c ∷ [])))
    ∙ ap (λ l. ((y ++ c ∷ whole) ++ l) ++ x) (sym (some (suc (length xs))))
  where
    some : (n : ℕ) → (if suc n == 0 then [] else c ∷ []) ≡ c ∷ []
    some n = grind (arith, nat_tests)

pub made-none : made 0 ≡ []
unfolding made
made-none = refl

pub made-more : (n : ℕ) → made (n + 1) ≡ (made n ++ separator n) ++ part n
unfolding made
made-more n =
    ap (join_with_byte 32) (map-range_with_len_more part 0 n n (omega arith))
    ∙ join-push 32 (map part (range_with_len 0 n)) (part n)
    ∙ ap (λ k. (join_with_byte 32 (map part (range_with_len 0 n)) ++ (if k == 0 then [] else 32 ∷ [])) ++ part n) (length-map-range_with_len part 0 n)
