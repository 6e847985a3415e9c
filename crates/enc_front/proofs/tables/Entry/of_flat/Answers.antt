use Rattle.std.proofs.Common.{◌∙◌, [], ap, sym}
use Rattle.enc_front.proofs.RowLemmas.{pairs_bmp}
use Rattle.enc_front.proofs.tables.Entry.of_flat.Goals as goal

pub invariant_of-result : goal.invariant_of-result
invariant_of-result c = record {
  form = sym c.requires;
  bmp = λ is place x e.
      pairs_bmp c.args.kind [] c.args.pairs.now is c.in_ok-index.ensures.sound place x
      (ap (λ places. places place) (sym c.in_ok-index.ensures.places) ∙ e);
}
