use Rattle.std.proofs.Common.{sym, subst, ◌∙◌, ap, ap₂, ◌++◌, arith, w8, Fits, length}
use Rattle.std.proofs.lemmas.List.{map-id, length-map, length-append}
use Rattle.std.proofs.lemmas.Simd.{pick_l_whole}
use lib.Lanes.{Each1}
use Rattle.enc_strides.specs.Lanes.{low_byte}
use Rattle.enc_strides.proofs.UnitLemmas.{low_lanes, low_fit, low_of_two}
use Rattle.enc_strides.proofs.simd_funcs.simd_pack.Goals as goal

pub overflow_cast-low : goal.overflow_cast-low
overflow_cast-low c = subst (Each1 (Fits w8)) (sym (low_lanes c.args.a 8 c.fits-a.0)) (low_fit c.args.a)

pub overflow_cast-high : goal.overflow_cast-high
overflow_cast-high c = subst (Each1 (Fits w8)) (sym (low_lanes c.args.b 8 c.fits-b.0)) (low_fit c.args.b)

pub returns : goal.returns
returns c =
    let low = map-id _ ∙ low_lanes c.args.a 8 c.fits-a.0 in
    let high = map-id _ ∙ low_lanes c.args.b 8 c.fits-b.0 in
    let joined = ap₂ (λ x y. x ++ y) low high ∙ low_of_two c.args.a c.args.b in
    pick_l_whole 0 _ 16 (omega (arith, ap length joined, length-map (c.args.a ++ c.args.b) low_byte, length-append c.args.a c.args.b, c.fits-a.0, c.fits-b.0)) ∙ joined
