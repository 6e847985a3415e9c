use Rattle.std.proofs.Common.{◌∙◌, ap}
use Rattle.enc_drivers.specs.Lookup.{least_place}
use Rattle.enc_front.specs.Cells.{cell_places}
use Rattle.enc_front.proofs.StretchLemmas.{by_stretch}
use Rattle.enc_front.proofs.index.IndexLookup.place_of.Goals as goal

pub returns-in-Some : goal.returns-in-Some
returns-in-Some c =
    let index = c.args.self.now in
    let places = cell_places index.cells.cells.items in
    c.place_below.ensures
    ∙ by_stretch index.keys.items places index.stretch c.from-scalar.result c.args.below
    c.in-Some.place index.finds index.stretched index.stretch.places c.in-Some.ensures
    ∙ ap (λ scalar. least_place places scalar c.args.below) c.from-scalar.ensures
