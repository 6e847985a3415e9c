use Rattle.std.proofs.Common.{ℕ, ◌+◌, ◌++◌, List, length, take, drop, ◌∙◌, ap, arith}
use Rattle.std.proofs.lemmas.List.{take_rest, length-drop}
use Rattle.qp.specs.Text.{kept}
use Rattle.qp.specs.Line.{parts, values, ends_soft}
use Rattle.qp.proofs.Reading.{value_after_front, soft_after_front}
use Rattle.qp.proofs.robust.fill.Goals as goal

pub loop-len-preserved : goal.loop-len-preserved
loop-len-preserved c =
    let rest : List ℕ = c.loop-len.rest.now in
    let run : ℕ = c.put_run-run.result in
    let count : ℕ = c.loop-len.len + run in
    record {
      value =
          ap (λ r. take count c.put_run-run.new.room ++ values (parts (kept r))) (take_rest rest run)
          ∙ ap (λ out. out ++ values (parts (kept (drop run rest)))) c.put_run-run.ensures.written
          ∙ value_after_front (take c.loop-len.len c.loop-len.room) _ rest run c.put_run-run.ensures.run c.loop-len.invariant.value;
      soft = ap (λ r. ends_soft (parts (kept r))) (take_rest rest run) ∙ soft_after_front rest run c.put_run-run.ensures.run ∙ c.loop-len.invariant.soft;
      within = omega (arith, c.put_run-run.ensures.within, c.put_run-run.ensures.len);
      same = omega (arith, c.put_run-run.ensures.len, c.loop-len.invariant.same);
      shorter = omega (arith, c.loop-len.invariant.shorter, ap length (take_rest rest run), length-drop run rest);
    }
