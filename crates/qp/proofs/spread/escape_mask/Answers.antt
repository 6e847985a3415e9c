use Rattle.std.proofs.Common.{leb, cond, w8, refl, arith}
use Rattle.std.proofs.lemmas.Simd.{length-chunk, zip2_splat, zip2_splat_left, chunk-fits}
use lib.Lanes.{chunk}
use Rattle.qp.specs.Blocks.{needs_escape}
use Rattle.qp.proofs.LaneLemmas.{joined}
use Rattle.qp.proofs.SpreadLemmas.{mask_is}
use Rattle.qp.proofs.spread.escape_mask.Goals as goal

pub returns : goal.returns
returns c =
    let v = chunk 0 16 c.args.text.now in
    let long = length-chunk 0 16 c.args.text.now c.requires in
    mask_is _ needs_escape v _ (omega (arith, long)) (chunk-fits w8 0 16 c.args.text.now c.type_inv.text)
    (joined _ _ _ v (joined _ _ _ v (joined _ _ _ v (zip2_splat _ v 16 32 long) (zip2_splat _ v 16 9 long)) (zip2_splat _ v 16 61 long)) (zip2_splat_left (λ a b. cond (leb a b) 255 0) 127 16 v long))
    refl
