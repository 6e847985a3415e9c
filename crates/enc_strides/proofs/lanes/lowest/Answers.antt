use Rattle.std.proofs.Common.{arith}
use Rattle.enc_strides.proofs.MaskLemmas.{no_lane, first_lane}
use Rattle.enc_strides.proofs.lanes.lowest.Goals as goal

pub returns-then-mask-eq0 : goal.returns-then-mask-eq0
returns-then-mask-eq0 c = λ passes xs few e. no_lane passes xs c.args.mask e c.if-mask-eq0.true

pub returns : goal.returns
returns c = λ passes xs few e. first_lane passes xs c.args.mask few e (omega arith)
