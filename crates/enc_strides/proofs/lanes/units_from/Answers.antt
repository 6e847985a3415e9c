use Rattle.std.proofs.Common.{leb, w16, map, replicate, ◌%◌, ◌^◌, ap, ◌∙◌, arith}
use Rattle.std.proofs.lemmas.List.{length-map}
use Rattle.std.proofs.lemmas.Simd.{tops_compared, zip2_splat_left, mask_l-mod}
use lib.Lanes.{mask_l}
use Rattle.enc_strides.specs.Lanes.{is_from}
use Rattle.enc_strides.proofs.lanes.units_from.Goals as goal

pub returns : goal.returns
returns c =
    let v = c.args.v in
    ap (λ ms. mask_l ms % 2 ^ 64) (tops_compared w16 leb (replicate 8 c.args.least) v ∙ zip2_splat_left leb c.args.least 8 v c.fits-v.0)
    ∙ mask_l-mod (map (is_from c.args.least) v) 64 (omega (arith, length-map v (is_from c.args.least), c.fits-v.0))
