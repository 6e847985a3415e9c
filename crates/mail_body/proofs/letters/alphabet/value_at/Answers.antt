use Rattle.std.proofs.Common.{get_or, ap, ◌∙◌}
use Rattle.mail_body.specs.declared.letters.alphabet.TheConstants.{VALUES}
use Rattle.mail_body.proofs.LetterTable.{value_at_byte}
use Rattle.mail_body.proofs.letters.alphabet.value_at.Goals as goal

pub returns : goal.returns
returns c = ap (λ i. get_or VALUES i 0) c.from.ensures ∙ value_at_byte c.args.byte c.ranges.byte.fits
