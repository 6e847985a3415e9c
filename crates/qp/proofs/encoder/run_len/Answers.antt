use Rattle.std.proofs.Common.{◌≡◌, ℕ, ◌-◌, ◌++◌, List, false, ◌&&◌, map, take, drop, sym, ap, ◌∙◌, subst, arith}
use Rattle.std.proofs.lemmas.Bool.{and_left, and_right}
use Rattle.std.proofs.lemmas.List.{take_rest}
use Rattle.qp.specs.Items.{plain, items, ends_blank, ends_line}
use Rattle.qp.proofs.ItemLemmas.{items-shorter, items-whole}
use Rattle.qp.proofs.encoder.run_len.Goals.{else-ends_line-via-then-ends_line+else-ends_blank, else-ends_line-via-else-ends_line}
use Rattle.qp.proofs.encoder.run_len.Goals as goal

pub returns-then-ends_blank-clause-run : goal.returns-then-ends_blank-clause-run
returns-then-ends_blank-clause-run c = λ mode.
    let text : List ℕ = c.args.text.now in
    let run : ℕ = c.first_plain-run.result in
    let less : c.saturating_sub-then-ends_blank.result ≡ run - 1 = omega arith in
    subst (λ k. items mode text ≡ map plain (take k text) ++ items mode (drop k text)) (sym less)
    (items-shorter mode run text (omega arith) c.first_plain-run.ensures.run)

pub returns-clause-run : goal.returns-clause-run
returns-clause-run c = λ mode.
    let text : List ℕ = c.args.text.now in
    let run : ℕ = c.first_plain-run.result in
    let within : (ends_blank (take run text) && ends_line (drop run text)) ≡ false =
    elim c.else-ends_line.branch [
      | else-ends_line-via-then-ends_line+else-ends_blank w ↦ and_left (ends_blank (take run text)) (ends_line (drop run text)) (sym w.if-ends_blank.ensures)
      | else-ends_line-via-else-ends_line w ↦ and_right (ends_blank (take run text)) (ends_line (drop run text)) (sym (ap ends_line (take_rest text run)) ∙ sym w.if-ends_line.ensures)
    ] in
    items-whole mode run text c.first_plain-run.ensures.run within
