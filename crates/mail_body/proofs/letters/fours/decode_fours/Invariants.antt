use Rattle.std.proofs.Common.{◌+◌, ◌*◌}
use Rattle.mail_body.specs.HeldLetters.{Goes}
use Rattle.mail_body.specs.declared.letters.held.HeldLetters.TheVariants.{NoLetter}
use Rattle.mail_body.proofs.letters.fours.decode_fours.Given as goal

abbrev pub invariant-fours : goal.invariant-fours
invariant-fours l =
    Goes l.piece NoLetter l.at l.fn.out l.filled NoLetter (l.at + 4 * l.four) l.out (l.filled + 3 * l.four)
