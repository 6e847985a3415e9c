use Rattle.std.proofs.Common.{leb, w16, map, replicate, ◌%◌, ◌^◌, ap, ◌∙◌, arith}
use Rattle.std.proofs.lemmas.List.{length-map}
use Rattle.std.proofs.lemmas.Simd.{tops_compared, zip2_splat_left, mask_l-mod}
use lib.Lanes.{mask_l}
use Rattle.enc_strides.specs.Lanes.{is_from}
use Rattle.enc_strides.proofs.MaskLemmas.{few_of}
use Rattle.enc_strides.proofs.lanes.stride_from.Goals as goal

pub returns-clause-mask : goal.returns-clause-mask
returns-clause-mask c =
    let v = c.args.v in
    ap (λ ms. mask_l ms % 2 ^ 64) (tops_compared w16 leb (replicate 16 c.args.least) v ∙ zip2_splat_left leb c.args.least 16 v c.fits-v.0)
    ∙ mask_l-mod (map (is_from c.args.least) v) 64 (omega (arith, length-map v (is_from c.args.least), c.fits-v.0))

pub returns-clause-few : goal.returns-clause-few
returns-clause-few c =
    let v = c.args.v in
    few_of _ (map (is_from c.args.least) v) (omega (arith, length-map v (is_from c.args.least), c.fits-v.0)) (returns-clause-mask c)
