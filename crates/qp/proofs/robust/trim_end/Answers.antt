use Rattle.std.proofs.Common.{◌≡◌, [], true, false, not, ◌||◌, sym, ◌∙◌, ap}
use Rattle.std.proofs.lemmas.List.{nil_from_length}
use Rattle.qp.specs.Text.{is_text_octet, is_line_padding, kept, trimmed}
use Rattle.qp.proofs.Reading.{trimmed_lost, trimmed_stays, trimmed_nil}
use Rattle.qp.proofs.robust.trim_end.Goals as goal

pub loop-last-preserved : goal.loop-last-preserved
loop-last-preserved c =
    let last = c.in-Some.last.now in
    let lost : (not (is_text_octet last) || is_line_padding last) ≡ true = cc in
    sym (trimmed_lost c.in-Some.front.now last lost) ∙ sym (ap (λ r. trimmed (kept r)) c.in-Some.ensures.cases.0) ∙ c.loop-last.invariant

pub returns-then-not-is_lost_at_end : goal.returns-then-not-is_lost_at_end
returns-then-not-is_lost_at_end c =
    let last = c.in-Some.last.now in
    let stays : (not (is_text_octet last) || is_line_padding last) ≡ false = cc in
    let whole = c.in-Some.ensures.cases.0 in
    ap kept whole ∙ sym (trimmed_stays c.in-Some.front.now last stays) ∙ sym (ap (λ r. trimmed (kept r)) whole) ∙ c.loop-last.invariant

pub returns-in_default : goal.returns-in_default
returns-in_default c =
    let rest = c.loop-last.rest.now in
    let nothing : rest ≡ [] = nil_from_length rest c.in_default.ensures.cases in
    ap kept nothing ∙ sym trimmed_nil ∙ sym (ap (λ r. trimmed (kept r)) nothing) ∙ c.loop-last.invariant
