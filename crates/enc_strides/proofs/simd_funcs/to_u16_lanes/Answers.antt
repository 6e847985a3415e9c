use Rattle.enc_strides.proofs.UnitLemmas.{paired}
use Rattle.enc_strides.proofs.simd_funcs.to_u16_lanes.Goals as goal

pub returns : goal.returns
returns c = paired 8 c.args.s c.fits-s.0 c.fits-s.1
