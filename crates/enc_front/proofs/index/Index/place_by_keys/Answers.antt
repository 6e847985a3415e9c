use Rattle.std.proofs.Common.{◌≡◌, ◌∙◌, ◌-◌, ◌<◌, ℕ, List, Some, None, ap, sym, subst, rules, true}
use Rattle.std.proofs.Common.{false, ltb, arith, length, if◌then◌else◌}
use Rattle.std.specs.List.Sorted.{IsNonDecreasing, IsPartitionPoint}
use Rattle.std.specs.Prelude.{nat_lt, slice_index_or}
use Rattle.std.proofs.lemmas.List.Sorted.{IsPartitionPoint-from_clause, IsPartitionedBy-ltb}
use Rattle.enc_front.specs.Cells.{cell_places}
use Rattle.enc_front.specs.Keys.{FindsPlaces, key_of}
use Rattle.enc_front.proofs.KeyLemmas.{ByKey, by_key, no_key}
use Rattle.enc_front.proofs.index.Index.place_by_keys.Goals as goal
use Rattle.enc_front.proofs.index.Index.place_by_keys.Goals.{After-partition_point-front}

front : (c : After-partition_point-front)
    → IsPartitionPoint (λ k. nat_lt k (key_of c.args.scalar 0) ≡ true)
    (λ k. nat_lt k (key_of c.args.scalar 0) ≡ false) c.as_slice-keys.result.now
    c.partition_point-front.result
front c =
    let Sorted : List ℕ → Type 0 = λ keys. IsNonDecreasing keys in
    let sorted = subst Sorted (sym c.as_slice-keys.ensures.value) c.args.self.now.sorted in
    let parted = IsPartitionedBy-ltb (λ (k : ℕ). k) c.as_slice-keys.result.now
    (key_of c.args.scalar 0) sorted in
    IsPartitionPoint-from_clause (λ (k : ℕ). ltb k (key_of c.args.scalar 0)) _ _
    c.partition_point-front.ensures.partitioned parted (λ a r q k. search rules)

finds : (c : After-partition_point-front)
    → FindsPlaces c.as_slice-keys.result.now (cell_places c.args.self.now.cells.cells.items)
finds c =
    let Finds : List ℕ → Type 0 =
    λ keys. FindsPlaces keys (cell_places c.args.self.now.cells.cells.items) in
    subst Finds (sym c.as_slice-keys.ensures.value) c.args.self.now.finds

pub returns-in_err-key : goal.returns-in_err-key
returns-in_err-key c =
    let at = (goal.at.returns-in_err-key c).After-partition_point-front in
    c.from_residual.ensures
    ∙ sym (no_key c.as_slice-keys.result.now (cell_places c.args.self.now.cells.cells.items)
    c.args.scalar c.args.below c.partition_point-front.result (finds at) (front at)
    (omega arith)
    c.in_err-key.ensures.lookup.3)

found : (c : After-partition_point-front) (key : ℕ)
    → c.partition_point-front.result < length c.as_slice-keys.result.now
    → key ≡ slice_index_or c.as_slice-keys.result.now c.partition_point-front.result key
    → ByKey (cell_places c.args.self.now.cells.cells.items) c.args.scalar c.args.below key
found c key within is =
    let Sorted : List ℕ → Type 0 = λ keys. IsNonDecreasing keys in
    let sorted = subst Sorted (sym c.as_slice-keys.ensures.value) c.args.self.now.sorted in
    by_key c.as_slice-keys.result.now (cell_places c.args.self.now.cells.cells.items) c.args.scalar
    c.args.below c.partition_point-front.result key (finds c) sorted (front c) (omega arith)
    within is

pub overflow_sub-key : goal.overflow_sub-key
overflow_sub-key c =
    let by = found (goal.at.overflow_sub-key c).After-partition_point-front c.in_ok-key.field-0.now
    c.in_ok-key.ensures.lookup.3.0 c.in_ok-key.ensures.lookup.1 in
    let above = by.above in
    let least = c.key_of-least.ensures in
    omega (arith, above, least)

pub returns : goal.returns
returns c =
    let by = found (goal.at.returns c).After-partition_point-front c.in_ok-key.field-0.now
    c.in_ok-key.ensures.lookup.3.0 c.in_ok-key.ensures.lookup.1 in
    let key = c.in_ok-key.field-0.now in
    c.place_below.ensures
    ∙ ap (λ l. if nat_lt (key - l) c.args.below then Some (key - l) else None)
    c.key_of-least.ensures ∙ by.place
