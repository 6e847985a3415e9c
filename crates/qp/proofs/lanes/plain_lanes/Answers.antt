use Rattle.std.proofs.Common.{leb, cond, refl, arith}
use Rattle.std.proofs.lemmas.Simd.{length-chunk, zip2_splat, zip2_splat_left}
use lib.Lanes.{chunk}
use Rattle.qp.specs.Items.{may_stand_within}
use Rattle.qp.proofs.LaneLemmas.{joined, lanes_few, lanes_pass}
use Rattle.qp.proofs.lanes.plain_lanes.Goals as goal

pub returns-clause-few : goal.returns-clause-few
returns-clause-few c =
    let v = chunk c.args.at 16 c.args.text.now in
    let long = length-chunk c.args.at 16 c.args.text.now c.requires in
    lanes_few may_stand_within _ 16 (omega arith) c.args.text.now c.args.at _ _ c.requires c.type_inv.text
    (joined _ _ _ v (joined _ _ _ v (zip2_splat _ v 16 32 long) (zip2_splat _ v 16 61 long)) (zip2_splat_left (λ a b. cond (leb a b) 255 0) 127 16 v long))
    c.first_set.ensures

pub returns-clause-run : goal.returns-clause-run
returns-clause-run c =
    let v = chunk c.args.at 16 c.args.text.now in
    let long = length-chunk c.args.at 16 c.args.text.now c.requires in
    lanes_pass may_stand_within _ 16 (omega arith) c.args.text.now c.args.at _ _ c.requires c.type_inv.text
    (joined _ _ _ v (joined _ _ _ v (zip2_splat _ v 16 32 long) (zip2_splat _ v 16 61 long)) (zip2_splat_left (λ a b. cond (leb a b) 255 0) 127 16 v long))
    c.first_set.ensures refl
