use Rattle.std.proofs.Common.{◌≡◌, ◌+◌, ◌∷◌, get_or, true, false, sym, ◌∙◌, ap, arith}
use Rattle.std.proofs.lemmas.List.{take_rest}
use Rattle.qp.specs.Text.{is_text_octet, kept}
use Rattle.qp.proofs.Reading.{kept_drop_yes, kept_drop_no, kept_drop_all}
use Rattle.qp.proofs.robust.split_first_kept.Goals as goal

pub returns-then-is_text-clause-some : goal.returns-then-is_text-clause-some
returns-then-is_text-clause-some c =
    let xs = c.args.text.now in
    let i = c.loop-i.i in
    let is_kept : is_text_octet (get_or xs i 0) ≡ true = cc in
    let step = kept_drop_yes xs i (omega arith) is_kept in
    let rest = take_rest xs (i + 1) in
    sym c.loop-i.invariant ∙ step ∙ ap (λ r. get_or xs i 0 ∷ kept r) (sym rest)

pub loop-i-preserved : goal.loop-i-preserved
loop-i-preserved c =
    let xs = c.args.text.now in
    let i = c.loop-i.i in
    let is_dropped : is_text_octet (get_or xs i 0) ≡ false = cc in
    sym (kept_drop_no xs i (omega arith) is_dropped) ∙ c.loop-i.invariant

pub returns-clause-none : goal.returns-clause-none
returns-clause-none c = sym c.loop-i.invariant ∙ kept_drop_all c.args.text.now c.loop-i.i (omega arith)
