use Rattle.std.proofs.Common.{[], ◌∷◌, ap, sym, ◌∙◌}
use Rattle.mail_body.specs.HeldLetters.{base64_rest}
use Rattle.mail_body.proofs.Bodies.{body-none, body-one, body-two, body-three}
use Rattle.mail_body.proofs.letters.held.last_octets.Goals as goal

pub returns-in-NoLetter-clause-all : goal.returns-in-NoLetter-clause-all
returns-in-NoLetter-clause-all c = sym (ap (λ h. base64_rest h []) c.in-NoLetter.is ∙ body-none)

pub returns-in-OneLetter-clause-all : goal.returns-in-OneLetter-clause-all
returns-in-OneLetter-clause-all c =
    let a = c.in-OneLetter.field-0 in
    sym (ap (λ h. base64_rest h []) c.in-OneLetter.is ∙ body-one a.byte a.in_alphabet)

pub returns-in-TwoLetters-clause-all : goal.returns-in-TwoLetters-clause-all
returns-in-TwoLetters-clause-all c =
    let a = c.in-TwoLetters.a in
    let b = c.in-TwoLetters.b in
    ap (λ o. o ∷ []) c.first_octet.ensures ∙ sym (ap (λ h. base64_rest h []) c.in-TwoLetters.is ∙ body-two a.byte b.byte a.in_alphabet b.in_alphabet)

pub returns-in-ThreeLetters-clause-all : goal.returns-in-ThreeLetters-clause-all
returns-in-ThreeLetters-clause-all c =
    let p = c.in-ThreeLetters in
    (λ i. c.first_octet-in-ThreeLetters.ensures i ∷ c.second_octet.ensures i ∷ [])
    ∙ sym (ap (λ h. base64_rest h []) p.is ∙ body-three p.a.byte p.b.byte p.c.byte p.a.in_alphabet p.b.in_alphabet p.c.in_alphabet)
