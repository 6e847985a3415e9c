use Rattle.std.proofs.Common.{◌≡◌, ◌∙◌, arith}
use Rattle.words.specs.Base64.{letter_value}
use Rattle.mail_body.proofs.LetterTable.{value_is, small_value}
use Rattle.mail_body.proofs.letters.alphabet.Letter.value.Goals as goal

pub returns-clause-value : goal.returns-clause-value
returns-clause-value c = c.value_at.ensures ∙ value_is c.args.self.byte c.args.self.in_alphabet

pub returns-clause-six_bits : goal.returns-clause-six_bits
returns-clause-six_bits c =
    let is : c.value_at.result ≡ letter_value c.args.self.byte = c.value_at.ensures ∙ value_is c.args.self.byte c.args.self.in_alphabet in
    omega (arith, is, small_value c.args.self.byte c.args.self.in_alphabet)
