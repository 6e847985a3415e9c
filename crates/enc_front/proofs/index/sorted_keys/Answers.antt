use Rattle.std.proofs.Common.{◌∙◌, ℕ, ap, sym}
use Rattle.std.specs.Prelude.{◌==◌}
use Rattle.std.proofs.lemmas.List.Sorted.{IsNonDecreasingBy-from_sort, list_any-IsPermutation}
use Rattle.enc_front.specs.Keys.{has_key}
use Rattle.enc_front.proofs.index.sorted_keys.Goals as goal

pub returns-clause-keys : goal.returns-clause-keys
returns-clause-keys c key =
    sym (list_any-IsPermutation (λ k. k == key) _ _ c.sort_unstable.ensures.permutation)
    ∙ ap (λ keys. has_key keys key) c.in_ok-keys.ensures

pub returns-clause-sorted : goal.returns-clause-sorted
returns-clause-sorted c =
    IsNonDecreasingBy-from_sort (λ (k : ℕ). k) _ c.sort_unstable.ensures.sorted
