use Rattle.enc_strides.proofs.UnitLemmas.{swapped_lanes}
use Rattle.enc_strides.proofs.simd_funcs.simd_byte_swap.Goals as goal

pub returns : goal.returns
returns c = swapped_lanes 8 c.args.s c.fits-s.0 c.fits-s.1
