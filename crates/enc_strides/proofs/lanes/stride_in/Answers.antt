use Rattle.std.proofs.Common.{arith}
use Rattle.enc_strides.proofs.MaskLemmas.{in_parts}
use Rattle.enc_strides.proofs.lanes.stride_in.Goals as goal

pub overflow_sub-result : goal.overflow_sub-result
overflow_sub-result c = omega (arith, in_parts c.args.least c.args.end c.requires c.args.v, c.stride_from.ensures.mask, c.stride_from-2.ensures.mask)

pub returns : goal.returns
returns c = omega (arith, in_parts c.args.least c.args.end c.requires c.args.v, c.stride_from.ensures.mask, c.stride_from-2.ensures.mask)
