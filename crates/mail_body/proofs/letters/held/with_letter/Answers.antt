use Rattle.std.proofs.Common.{◌∷◌, ap, sym, ◌∙◌}
use Rattle.mail_body.specs.Base64.{base64_body}
use Rattle.mail_body.specs.HeldLetters.{base64_rest}
use Rattle.mail_body.proofs.Bodies.{body-four}
use Rattle.mail_body.proofs.letters.held.with_letter.Goals as goal

pub returns-in-ThreeLetters-clause-rest : goal.returns-in-ThreeLetters-clause-rest
returns-in-ThreeLetters-clause-rest c rest =
    let p = c.in-ThreeLetters in
    let d = c.args.letter in
    (λ i. c.first_octet.ensures i ∷ c.second_octet.ensures i ∷ c.third_octet.ensures i ∷ base64_body rest)
    ∙ sym (ap (λ h. base64_rest h (d.byte ∷ rest)) p.is
    ∙ body-four p.a.byte p.b.byte p.c.byte d.byte rest p.a.in_alphabet p.b.in_alphabet p.c.in_alphabet d.in_alphabet)
