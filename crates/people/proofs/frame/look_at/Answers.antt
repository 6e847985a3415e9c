use Rattle.std.proofs.Common.{◌≡◌, ◌==◌, ◌&&◌, ◌∷◌, false, ap, sym, ◌∙◌}
use Rattle.std.proofs.Math.Bool.{and-false}
use Rattle.std.proofs.lemmas.Bool.{ne_eqb}
use Rattle.people.specs.Frame.{begins_in}
use Rattle.people.specs.TextSteps.{cut_after}
use Rattle.people.proofs.TextLemmas.{goes-on, at-start-inside, is-inside}
use Rattle.people.proofs.frame.look_at.Goals as goal

pub returns-then-byte-ne-QUESTION_MARK : goal.returns-then-byte-ne-QUESTION_MARK
returns-then-byte-ne-QUESTION_MARK c =
    let b = c.args.byte in
    let rest = c.args.behind.now in
    let equals = c.args.after_equals in
    let n : (b == 63) ≡ false = ne_eqb b 63 c.if-byte-ne-QUESTION_MARK.true in
    goes-on equals b rest (ap (λ t. t && begins_in 61 rest) n) (is-inside b (ne_eqb b 13 c.if-byte-eq13.false) (ne_eqb b 10 c.if-byte-eq10.false)) (ap (λ t. equals && t) n ∙ and-false equals)

pub returns-then-after_equals : goal.returns-then-after_equals
returns-then-after_equals c =
    let rest = c.args.behind.now in
    (λ i. cut_after (c.if-after_equals.true i) (c.if-byte-ne-QUESTION_MARK.false i ∷ rest)) ∙ at-start-inside rest (sym c.if-begins_in_equals.ensures)

pub returns : goal.returns
returns c =
    let b = c.args.byte in
    let rest = c.args.behind.now in
    let equals = c.args.after_equals in
    goes-on equals b rest (ap (λ t. (b == 63) && t) (sym c.if-begins_in_equals.ensures) ∙ and-false (b == 63))
    (is-inside b (ne_eqb b 13 c.if-byte-eq13.false) (ne_eqb b 10 c.if-byte-eq10.false)) (ap (λ t. t && (b == 63)) c.if-after_equals.false)
