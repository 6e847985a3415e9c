use Rattle.std.proofs.Common.{◌≡◌, ◌-◌, ◌∙◌, ℕ, ap, sym, subst, rules, leb, true, false, List}
use Rattle.std.specs.List.Sorted.{IsPartitionPoint, IsNonDecreasingBy}
use Rattle.std.specs.Prelude.{nat_le, slice_index_or}
use Rattle.std.proofs.Math.Utf8.{scalar_fits}
use Rattle.std.proofs.lemmas.List.Sorted.{IsPartitionPoint-from_clause, IsPartitionedBy-leb}
use Rattle.enc_drivers.specs.Lookup.{FindsScalars}
use Rattle.enc_front.specs.Ranges.{range_places}
use Rattle.enc_front.proofs.IndexLemmas.{ByRow, by_row, no_row, outside_at, place_7457_at}
use Rattle.enc_front.proofs.IndexLemmas.{from_scalar}
use Rattle.enc_front.proofs.index.RangesLookup.at.Goals as goal
use Rattle.enc_front.proofs.index.RangesLookup.at.Goals.{After-partition_point-behind}
use Rattle.enc_front.proofs.index.RangesLookup.at.Goals.{Else-behind-eq0}

pub returns-then-is_outside : goal.returns-then-is_outside
returns-then-is_outside c =
    sym (outside_at c.args.self.now.rows.items c.args.place (sym c.if-is_outside.ensures))

pub returns-then-place-eq7457 : goal.returns-then-place-eq7457
returns-then-place-eq7457 c =
    sym (place_7457_at c.args.self.now.rows.items c.args.place c.if-place-eq7457.true)

point : (c : After-partition_point-behind)
    → IsPartitionPoint (λ (r : ℕ × ℕ). nat_le r.0 c.args.place ≡ true) (λ r. nat_le r.0 c.args.place
    ≡ false) c.as_slice-rows.result.now c.partition_point-behind.result
point c =
    let Sorted : List (ℕ × ℕ) → Type 0 = λ rows. IsNonDecreasingBy (λ (row : ℕ × ℕ). row.0) rows in
    let sorted = subst Sorted (sym c.as_slice-rows.ensures.value) c.args.self.now.sorted in
    let parted = IsPartitionedBy-leb (λ (row : ℕ × ℕ). row.0) c.as_slice-rows.result.now
    c.args.place sorted in
    IsPartitionPoint-from_clause (λ (row : ℕ × ℕ). leb row.0 c.args.place) _ _
    c.partition_point-behind.ensures.partitioned parted (λ a r q k. search rules)

same : (c : After-partition_point-behind)
    → range_places c.as_slice-rows.result.now c.args.place
    ≡ range_places c.args.self.now.rows.items c.args.place
same c = ap (λ rows. range_places rows c.args.place) c.as_slice-rows.ensures.value

pub returns-then-behind-eq0 : goal.returns-then-behind-eq0
returns-then-behind-eq0 c =
    let at = (goal.at.returns-then-behind-eq0 c).After-partition_point-behind in
    sym (no_row c.as_slice-rows.result.now c.partition_point-behind.result c.args.place
    c.if-is_outside.ensures c.if-place-eq7457.false (point at) c.if-behind-eq0.true) ∙ same at

row : (c : Else-behind-eq0)
    → ByRow c.as_slice-rows.result.now c.args.place
    (slice_index_or c.as_slice-rows.result.now (c.partition_point-behind.result - 1) (0, 0))
row c =
    let Sound : List (ℕ × ℕ) → Type 0 = λ rows. FindsScalars (range_places rows) in
    let sound = subst Sound (sym c.as_slice-rows.ensures.value) c.args.self.now.sound in
    let at = (goal.at.overflow_sub-place c).After-partition_point-behind in
    by_row c.as_slice-rows.result.now c.partition_point-behind.result c.args.place
    (0, 0) sound c.if-is_outside.ensures c.if-place-eq7457.false (point at)
    c.if-behind-eq0.false c.partition_point-behind.ensures.bound

pub overflow_sub-place : goal.overflow_sub-place
overflow_sub-place c = (row c).fits

pub overflow_add-scalar : goal.overflow_add-scalar
overflow_add-scalar c =
    record { fits = scalar_fits _ (row (goal.at.overflow_add-scalar c).Else-behind-eq0).scalar }

pub returns : goal.returns
returns c =
    let by = row (goal.at.returns c).Else-behind-eq0 in
    from_scalar c.from_u32.result _ c.from_u32.ensures.value by.scalar ∙ sym by.number
    ∙ same (goal.at.returns c).After-partition_point-behind
