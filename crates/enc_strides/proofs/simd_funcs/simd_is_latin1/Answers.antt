use Rattle.std.proofs.Common.{nat_eq, ap, ◌∙◌}
use Rattle.enc_strides.proofs.MaskLemmas.{none_from}
use Rattle.enc_strides.proofs.simd_funcs.simd_is_latin1.Goals as goal

pub returns : goal.returns
returns c = ap (λ m. nat_eq m 0) c.units_from.ensures ∙ none_from 256 c.args.s
