-- Bytes of a scalar with zeros behind them are the same exactly where the bytes are.
use Rattle.std.proofs.Common.{◌≡◌, Bool, ℕ, ◌≤◌, ◌&&◌, ◌↔◌, true, nat_eq, List, [], ◌∷◌, ◌++◌, length, take, sym, ap, ◌∙◌}
use Rattle.std.proofs.Math.Seq.{take-append_seam}
use Rattle.std.proofs.lemmas.List.{take-take}
use Rattle.std.proofs.lemmas.Bool.{and_parts, eq-eqb, eqb-true}
use Rattle.std.proofs.lemmas.Slice.Eq.{bytes_eq-Decides}
use Rattle.std.specs.Cmp.Derive.{both_true}
use Rattle.std.specs.Cmp.Lexicographic.{pointwise}

abbrev zeros : List ℕ
zeros = 0 ∷ 0 ∷ 0 ∷ []

unpadded : (x : List ℕ) → length x ≤ 4 → take (length x) (take 4 (x ++ zeros)) ≡ x
unpadded x few = take-take (length x) 4 (x ++ zeros) few ∙ take-append_seam x zeros

same_padded : (x y : List ℕ) → length x ≤ 4 → length y ≤ 4 → take 4 (x ++ zeros) ≡ take 4 (y ++ zeros) → length x ≡ length y → x ≡ y
same_padded x y fx fy e l =
    sym (unpadded x fx) ∙ (ap (take (length x)) e ∙ (ap (λ n. take n (take 4 (y ++ zeros))) l ∙ unpadded y fy))

module _ (x y : List ℕ) where
  abbrev bytes : Bool
  bytes = pointwise nat_eq (take 4 (x ++ zeros)) (take 4 (y ++ zeros))

  pub padded_equal : length x ≤ 4 → length y ≤ 4 → ((bytes && nat_eq (length x) (length y)) ≡ true) ↔ (x ≡ y)
  padded_equal fx fy = (
    λ t.
        let both = and_parts bytes (nat_eq (length x) (length y)) t in
        same_padded x y fx fy ((bytes_eq-Decides (take 4 (x ++ zeros)) (take 4 (y ++ zeros))).0 both.0) (eqb-true (length x) (length y) both.1),
    λ e. both_true ((bytes_eq-Decides (take 4 (x ++ zeros)) (take 4 (y ++ zeros))).1 (ap (λ z. take 4 (z ++ zeros)) e)) (eq-eqb (length x) (length y) (ap length e)),
  )
