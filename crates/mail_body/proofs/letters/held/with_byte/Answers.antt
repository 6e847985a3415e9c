use Rattle.std.proofs.Common.{◌∷◌, ap, sym, ◌∙◌, append-nil}
use Rattle.mail_body.specs.HeldLetters.{base64_rest, octet_list}
use Rattle.mail_body.proofs.Rests.{rest-ends, rest-ignores}
use Rattle.std.proofs.lemmas.Bool.{ne_eqb}
use Rattle.mail_body.proofs.letters.held.with_byte.Goals as goal

pub returns-then-byte-eq-PAD-clause-rest : goal.returns-then-byte-eq-PAD-clause-rest
returns-then-byte-eq-PAD-clause-rest c rest =
    append-nil (octet_list c.last_octets.result) ∙ c.last_octets.ensures.all
    ∙ sym (ap (λ b. base64_rest c.args.held (b ∷ rest)) c.if-byte-eq-PAD.true ∙ rest-ends c.args.held rest)

pub returns-in-None-clause-rest : goal.returns-in-None-clause-rest
returns-in-None-clause-rest c rest =
    sym (rest-ignores c.args.held c.args.byte rest (ne_eqb c.args.byte 61 c.if-byte-eq-PAD.false) c.in-None.ensures)
