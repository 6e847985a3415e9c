use Rattle.std.proofs.Common.{◌≡◌, [], true, false, sym, ◌∙◌, ap}
use Rattle.std.proofs.lemmas.List.{nil_from_length}
use Rattle.qp.specs.Text.{is_line_padding, trimmed}
use Rattle.qp.proofs.Reading.{trimmed_padding, trimmed_other}
use Rattle.qp.proofs.Stripped.{trimmed-none}
use Rattle.qp.proofs.strict.trim_end.Goals as goal

pub loop-last-preserved : goal.loop-last-preserved
loop-last-preserved c =
    let last = c.in-Some.last.now in
    let front = c.in-Some.front.now in
    let lost : is_line_padding last ≡ true = cc in
    sym (trimmed_padding front last lost) ∙ sym (ap trimmed c.in-Some.ensures.cases.0) ∙ c.loop-last.invariant

pub returns-then-not-is_line_padding : goal.returns-then-not-is_line_padding
returns-then-not-is_line_padding c =
    let last = c.in-Some.last.now in
    let front = c.in-Some.front.now in
    let stays : is_line_padding last ≡ false = cc in
    let whole = c.in-Some.ensures.cases.0 in
    whole ∙ sym (trimmed_other front last stays) ∙ sym (ap trimmed whole) ∙ c.loop-last.invariant

pub returns-in_default : goal.returns-in_default
returns-in_default c =
    let rest = c.loop-last.rest.now in
    let nothing : rest ≡ [] = nil_from_length rest c.in_default.ensures.cases in
    nothing ∙ sym trimmed-none ∙ sym (ap trimmed nothing) ∙ c.loop-last.invariant
