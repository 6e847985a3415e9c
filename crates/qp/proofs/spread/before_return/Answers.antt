use Rattle.std.proofs.Common.{eqb, not, refl, arith}
use Rattle.std.proofs.lemmas.Simd.{length-chunk, zip2_splat}
use lib.Lanes.{chunk}
use Rattle.qp.proofs.LaneLemmas.{lanes_few, lanes_pass}
use Rattle.qp.proofs.spread.before_return.Goals as goal

pub returns-clause-few : goal.returns-clause-few
returns-clause-few c =
    let v = chunk 0 16 c.args.text.now in
    let long = length-chunk 0 16 c.args.text.now c.requires in
    lanes_few (λ b. not (eqb b 13)) _ 16 (omega arith) c.args.text.now 0 _ _ c.requires c.type_inv.text (zip2_splat _ v 16 13 long) c.first_set.ensures

pub returns-clause-run : goal.returns-clause-run
returns-clause-run c =
    let v = chunk 0 16 c.args.text.now in
    let long = length-chunk 0 16 c.args.text.now c.requires in
    lanes_pass (λ b. not (eqb b 13)) _ 16 (omega arith) c.args.text.now 0 _ _ c.requires c.type_inv.text (zip2_splat _ v 16 13 long) c.first_set.ensures refl
