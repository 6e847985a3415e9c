use Rattle.std.proofs.Common.{◌∙◌, ℕ, List, ap, subst}
use Rattle.enc_front.specs.LeastRow.{IsLeastByRows, under, with_7457}
use Rattle.enc_front.proofs.LeastRowLemmas.{least_in_ranges}
use Rattle.enc_front.proofs.index.RangesLookup.place_of.Goals as goal

pub returns : goal.returns
returns c =
    let by_rows = c.place_by_rows-by_rows.result in
    let ByScalar : ℕ → Type 0 = λ scalar. IsLeastByRows c.as_slice.result.now scalar by_rows in
    let ByRows : List (ℕ × ℕ) → Type 0 = λ rows. IsLeastByRows rows c.args.scalar by_rows in
    let least : IsLeastByRows c.args.self.now.rows.items c.args.scalar by_rows =
    subst ByRows c.as_slice.ensures.value
    (subst ByScalar c.from.ensures c.place_by_rows-by_rows.ensures) in
    c.under.ensures ∙ ap (λ o. under o c.args.below) (c.with_7457.ensures
    ∙ ap (λ s. with_7457 by_rows s) c.from-2.ensures)
    ∙ least_in_ranges c.args.self.now.rows.items c.args.scalar c.args.below by_rows least
