use Rattle.std.proofs.Common.{nat_eq, not, ap, ◌∙◌}
use Rattle.enc_strides.specs.Lanes.{is_in}
use Rattle.enc_strides.proofs.MaskLemmas.{some_set}
use Rattle.enc_strides.proofs.simd_funcs.has_in.Goals as goal

pub returns : goal.returns
returns c = ap (λ m. not (nat_eq m 0)) c.units_in.ensures ∙ some_set (is_in c.args.least c.args.end) c.args.s
