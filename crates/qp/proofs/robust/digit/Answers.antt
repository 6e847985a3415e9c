use Rattle.std.proofs.Common.{get_or, ap, ◌∙◌}
use Rattle.qp.specs.declared.robust.TheConstants.{DIGITS}
use Rattle.qp.proofs.DigitLemmas.{digit_at}
use Rattle.qp.proofs.robust.digit.Goals as goal

pub returns : goal.returns
returns c = ap (λ i. get_or DIGITS i 0) c.from.ensures ∙ digit_at c.args.byte c.ranges.byte.fits
