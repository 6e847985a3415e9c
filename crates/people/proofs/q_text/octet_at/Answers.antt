use Rattle.std.proofs.Common.{◌∷◌, ap, sym, ◌∙◌}
use Rattle.std.proofs.lemmas.Bool.{ne_eqb}
use Rattle.people.specs.QText.{q_octets}
use Rattle.people.proofs.QLemmas.{q-underscore, q-literal, q-escape, q-no-escape}
use Rattle.people.proofs.q_text.octet_at.Goals as goal

pub returns-then-byte-eq-UNDERSCORE-clause-octet : goal.returns-then-byte-eq-UNDERSCORE-clause-octet
returns-then-byte-eq-UNDERSCORE-clause-octet c =
    ap (λ b. q_octets (b ∷ c.args.behind.now)) c.if-byte-eq-UNDERSCORE.true ∙ q-underscore c.args.behind.now

pub returns-then-byte-ne-ESCAPE-clause-octet : goal.returns-then-byte-ne-ESCAPE-clause-octet
returns-then-byte-ne-ESCAPE-clause-octet c =
    q-literal c.args.byte c.args.behind.now (ne_eqb c.args.byte 61 c.if-byte-ne-ESCAPE.true) (ne_eqb c.args.byte 95 c.if-byte-eq-UNDERSCORE.false)

pub returns-in-Some-clause-octet : goal.returns-in-Some-clause-octet
returns-in-Some-clause-octet c =
    ap (λ b. q_octets (b ∷ c.args.behind.now)) c.if-byte-ne-ESCAPE.false ∙ q-escape c.args.behind.now c.in-Some.octet (sym c.in-Some.ensures.value)

pub returns-in-None-clause-octet : goal.returns-in-None-clause-octet
returns-in-None-clause-octet c =
    ap (λ b. q_octets (b ∷ c.args.behind.now)) c.if-byte-ne-ESCAPE.false
    ∙ (q-no-escape c.args.behind.now (sym c.in-None.ensures.value) ∙ ap (λ b. b ∷ q_octets c.args.behind.now) (sym c.if-byte-ne-ESCAPE.false))
