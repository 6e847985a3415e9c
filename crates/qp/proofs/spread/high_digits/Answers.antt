use Rattle.std.proofs.Common.{w8, refl}
use Rattle.std.proofs.lemmas.Simd.{length-chunk, zip2_splat, chunk-fits}
use lib.Lanes.{chunk}
use Rattle.qp.proofs.SpreadLemmas.{small_lanes, digits_ok, digits_are, high_of}
use Rattle.qp.proofs.spread.high_digits.Goals as goal

pub swizzle : goal.swizzle
swizzle c =
    let v = chunk 0 16 c.args.text.now in
    let long = length-chunk 0 16 c.args.text.now c.requires in
    let fits = chunk-fits w8 0 16 c.args.text.now c.type_inv.text in
    digits_ok v _ _ long (zip2_splat _ v 16 4 long) (small_lanes _ refl v fits)

pub returns : goal.returns
returns c =
    let v = chunk 0 16 c.args.text.now in
    let long = length-chunk 0 16 c.args.text.now c.requires in
    let fits = chunk-fits w8 0 16 c.args.text.now c.type_inv.text in
    digits_are high_of v _ _ long fits (zip2_splat _ v 16 4 long) (small_lanes _ refl v fits) refl
