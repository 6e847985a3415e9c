use Rattle.std.proofs.Common.{◌∙◌, ap, sym}
use Rattle.enc_front.specs.Cells.{cell_places}
use Rattle.enc_front.proofs.IndexLemmas.{cell_at, no_cell_at}
use Rattle.enc_front.proofs.index.Cells.at.Goals as goal

pub returns-in_err-cell : goal.returns-in_err-cell
returns-in_err-cell c =
    c.from_residual.ensures
    ∙ sym (no_cell_at c.deref.result.now c.args.place c.in_err-cell.ensures.lookup.3)
    ∙ ap (λ cells. cell_places cells c.args.place) c.deref.ensures.value

pub returns : goal.returns
returns c =
    cell_at c.deref.result.now c.args.place c.in_ok-cell.field-0.now c.from_u32.result
    c.in_ok-cell.ensures.lookup.3.0 c.in_ok-cell.ensures.lookup.1 c.from_u32.ensures.value
    ∙ ap (λ cells. cell_places cells c.args.place) c.deref.ensures.value
