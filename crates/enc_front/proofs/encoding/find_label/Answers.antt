use Rattle.std.proofs.Common.{◌∙◌, ℕ, List, Some, ap, sym, rules}
use Rattle.std.specs.Borrow.{Bor}
use Rattle.std.specs.Ordering.{is_lt}
use Rattle.std.specs.Str.{str_eq_ignore_ascii_case}
use Rattle.std.proofs.lemmas.List.Sorted.{IsPartitionPoint-from_clause}
use Rattle.enc_front.specs.declared.encoding.Encoding.{Encoding}
use Rattle.enc_front.specs.LabelOrder.{label_order}
use Rattle.enc_front.proofs.LabelSearch.{IsPlaceOf, partitioned, searched_at, searched_other}
use Rattle.enc_front.proofs.LabelSearch.{searched_past}
use Rattle.enc_front.proofs.encoding.find_label.Goals as goal
use Rattle.enc_front.proofs.encoding.find_label.Goals.{After-partition_point-at}

point : (c : After-partition_point-at)
    → IsPlaceOf c.args.rows.now c.args.label.now c.partition_point-at.result
point c =
    IsPartitionPoint-from_clause
    (λ (row : Bor (List ℕ) × Encoding). is_lt (label_order row.0.now c.args.label.now)) _ _
    c.partition_point-at.ensures.partitioned
    (partitioned c.args.rows.now c.args.label.now c.requires) (λ a r q k. search rules)

pub returns-in_err-row : goal.returns-in_err-row
returns-in_err-row c =
    c.from_residual.ensures
    ∙ sym (searched_past c.args.rows.now c.args.label.now c.partition_point-at.result
    (point (goal.at.returns-in_err-row c).After-partition_point-at)
    c.in_err-row.ensures.lookup.3)

pub returns-then-is_same_label : goal.returns-then-is_same_label
returns-then-is_same_label c =
    let row = c.in_ok-row.row.now in
    let is = c.in_ok-row.ensures.lookup.1 in
    let here = ap (λ r. str_eq_ignore_ascii_case r.0.now c.args.label.now) (sym is)
    ∙ sym c.if-is_same_label.ensures in
    sym (searched_at c.args.rows.now c.args.label.now c.partition_point-at.result row
    (point (goal.at.returns-then-is_same_label c).After-partition_point-at)
    c.in_ok-row.ensures.lookup.3.0 here
    ∙ ap (λ r. Some r.1) (sym is))

pub returns : goal.returns
returns c =
    let row = c.in_ok-row.row.now in
    let is = c.in_ok-row.ensures.lookup.1 in
    let here = ap (λ r. str_eq_ignore_ascii_case r.0.now c.args.label.now) (sym is)
    ∙ sym c.if-is_same_label.ensures in
    sym (searched_other c.args.rows.now c.args.label.now c.partition_point-at.result row c.requires
    (point (goal.at.returns c).After-partition_point-at) c.in_ok-row.ensures.lookup.3.0 here)
