use Rattle.std.proofs.Common.{ap, ◌∙◌, refl}
use Rattle.enc_front.specs.Cells.{cell_places}
use Rattle.enc_front.proofs.IndexLemmas.{none_at}
use Rattle.enc_front.proofs.index.Cells.empty.Goals as goal

pub returns-clause-none : goal.returns-clause-none
returns-clause-none c place =
    ap (λ cells. cell_places cells place) (c.in_ok-cells.ensures.items_if_clones_equal (λ y e. e))
    ∙ none_at c.args.count 4294967295 place refl
