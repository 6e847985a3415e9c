use Rattle.std.proofs.Common.{ℕ, List, length, ◌∙◌, ap, arith}
use Rattle.std.proofs.lemmas.List.{take_rest, length-drop}
use Rattle.qp.specs.Line.{parts, ends_soft}
use Rattle.qp.specs.Strict.{first_fault, part_fault}
use Rattle.qp.proofs.Reading.{soft_behind}
use Rattle.qp.proofs.StrictLemmas.{part-run}
use Rattle.qp.proofs.strict.skip_plain.Goals as goal

pub loop-rest-preserved : goal.loop-rest-preserved
loop-rest-preserved c =
    let rest : List ℕ = c.loop-rest.rest.now in
    let run : ℕ = c.plain_lanes-run.result in
    record {
      soft = ap (λ r. ends_soft (parts r)) (take_rest rest run) ∙ soft_behind rest run c.plain_lanes-run.ensures.run ∙ c.loop-rest.invariant.soft;
      fault = ap (λ r. first_fault part_fault (parts r)) (take_rest rest run) ∙ part-run run rest c.plain_lanes-run.ensures.run ∙ c.loop-rest.invariant.fault;
      shorter = omega (arith, c.loop-rest.invariant.shorter, ap length (take_rest rest run), length-drop run rest);
    }

pub returns-then-run-lt-LANES-clause-soft : goal.returns-then-run-lt-LANES-clause-soft
returns-then-run-lt-LANES-clause-soft c =
    let rest : List ℕ = c.loop-rest.rest.now in
    let run : ℕ = c.plain_lanes-run.result in
    ap (λ r. ends_soft (parts r)) (take_rest rest run) ∙ soft_behind rest run c.plain_lanes-run.ensures.run ∙ c.loop-rest.invariant.soft

pub returns-then-run-lt-LANES-clause-fault : goal.returns-then-run-lt-LANES-clause-fault
returns-then-run-lt-LANES-clause-fault c =
    let rest : List ℕ = c.loop-rest.rest.now in
    let run : ℕ = c.plain_lanes-run.result in
    ap (λ r. first_fault part_fault (parts r)) (take_rest rest run) ∙ part-run run rest c.plain_lanes-run.ensures.run ∙ c.loop-rest.invariant.fault
