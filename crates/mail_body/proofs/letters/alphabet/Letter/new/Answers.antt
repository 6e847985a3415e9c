use Rattle.std.proofs.Common.{arith}
use Rattle.mail_body.proofs.LetterTable.{a_letter, no_letter}
use Rattle.mail_body.proofs.letters.alphabet.Letter.new.Goals as goal

pub invariant_of-result : goal.invariant_of-result
invariant_of-result c =
    record { in_alphabet = (a_letter c.args.byte c.value_at.result c.ranges.byte.fits c.value_at.ensures c.if-value_at-eq-NO_LETTER.false).0 }

pub returns-then-value_at-eq-NO_LETTER : goal.returns-then-value_at-eq-NO_LETTER
returns-then-value_at-eq-NO_LETTER c =
    no_letter c.args.byte c.value_at.result c.ranges.byte.fits c.value_at.ensures (omega arith)
