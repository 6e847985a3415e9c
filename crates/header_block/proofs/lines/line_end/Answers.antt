use Rattle.std.proofs.Common.{◌≡◌, length, take, eqb, ap, sym, ◌∙◌, arith}
use Rattle.std.proofs.lemmas.List.{take_all, get_or-take, length-take-le}
use Rattle.header_block.specs.Lines.{has_lf}
use Rattle.header_block.proofs.LineLemmas.{has_lf-none}
use Rattle.header_block.proofs.lines.line_end.Goals as goal

pub returns-in-Some-clause-before : goal.returns-in-Some-clause-before
returns-in-Some-clause-before c =
    let place = c.in-Some.place in
    let bytes = c.args.bytes.now in
    let len : length (take place bytes) ≡ place = length-take-le place bytes (omega (arith, c.in-Some.ensures.0.high)) in
    has_lf-none (take place bytes) (λ k l e.
    c.in-Some.ensures.0.before k (omega arith) (omega arith) (ap (λ b. eqb b 10) (sym (get_or-take place bytes k 0 (omega arith))) ∙ e))

pub returns-in-None-clause-before : goal.returns-in-None-clause-before
returns-in-None-clause-before c =
    let bytes = c.args.bytes.now in
    ap has_lf (take_all (length bytes) bytes (omega arith)) ∙ has_lf-none bytes (λ k l e. c.in-None.ensures k (omega arith) l e)
