use Rattle.std.proofs.Common.{◌≡◌, ℕ, List, [], true, false, eqb, not, ◌&&◌, ◌||◌, sym, ◌∙◌, ap}
use Rattle.std.proofs.lemmas.List.{nil_from_length, take_rest}
use Rattle.qp.specs.Text.{is_text_octet}
use Rattle.qp.specs.Strict.{has_invalid_byte}
use Rattle.qp.proofs.StrictLemmas.{invalid-none, invalid-pair, invalid-here, invalid-later}
use Rattle.qp.proofs.strict.has_invalid_byte.Goals as goal

pub loop-byte-preserved-then-begins_break : goal.loop-byte-preserved-then-begins_break
loop-byte-preserved-then-begins_break c =
    let text : List ℕ = c.loop-byte.rest.now in
    c.skip_printable-rest-then-begins_break.ensures.same ∙ ap has_invalid_byte (take_rest text 2) ∙ sym (invalid-pair text (sym c.if-begins_break.ensures)) ∙ c.loop-byte.invariant

pub returns-then-not-stands_alone : goal.returns-then-not-stands_alone
returns-then-not-stands_alone c =
    let text : List ℕ = c.loop-byte.rest.now in
    let byte : ℕ = c.in-Some.byte.now in
    let bad : (is_text_octet byte && not (eqb byte 13 || eqb byte 10)) ≡ false = cc in
    sym (invalid-here byte text c.in-Some.after.now c.in-Some.ensures.cases.0 (sym c.if-begins_break.ensures) bad) ∙ c.loop-byte.invariant

pub loop-byte-preserved : goal.loop-byte-preserved
loop-byte-preserved c =
    let text : List ℕ = c.loop-byte.rest.now in
    let byte : ℕ = c.in-Some.byte.now in
    let good : (is_text_octet byte && not (eqb byte 13 || eqb byte 10)) ≡ true = cc in
    c.skip_printable-rest-in-Some.ensures.same ∙ sym (invalid-later byte text c.in-Some.after.now c.in-Some.ensures.cases.0 good) ∙ c.loop-byte.invariant

pub returns : goal.returns
returns c =
    let rest : List ℕ = c.loop-byte.rest.now in
    let nothing : rest ≡ [] = nil_from_length rest c.in_default.ensures.cases in
    sym invalid-none ∙ sym (ap has_invalid_byte nothing) ∙ c.loop-byte.invariant
