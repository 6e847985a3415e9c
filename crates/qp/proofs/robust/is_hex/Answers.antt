use Rattle.std.proofs.Common.{nat_lt, ap, ◌∙◌}
use Rattle.qp.proofs.DigitLemmas.{digit-test}
use Rattle.qp.proofs.robust.is_hex.Goals as goal

pub returns : goal.returns
returns c = ap (λ d. nat_lt d 16) c.digit.ensures ∙ digit-test c.args.byte c.ranges.byte.fits
