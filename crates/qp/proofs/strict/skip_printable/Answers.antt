use Rattle.std.proofs.Common.{ℕ, List, length, ◌∙◌, ap, arith}
use Rattle.std.proofs.lemmas.List.{take_rest, length-drop}
use Rattle.qp.specs.Strict.{has_invalid_byte}
use Rattle.qp.proofs.StrictLemmas.{invalid-run}
use Rattle.qp.proofs.strict.skip_printable.Goals as goal

pub loop-rest-preserved : goal.loop-rest-preserved
loop-rest-preserved c =
    let rest : List ℕ = c.loop-rest.rest.now in
    let run : ℕ = c.printable_lanes-run.result in
    (ap has_invalid_byte (take_rest rest run) ∙ invalid-run run rest c.printable_lanes-run.ensures.run ∙ c.loop-rest.invariant.0, omega (arith, c.loop-rest.invariant.1, ap length (take_rest rest run), length-drop run rest))

pub returns-then-run-lt-LANES-clause-same : goal.returns-then-run-lt-LANES-clause-same
returns-then-run-lt-LANES-clause-same c =
    let rest : List ℕ = c.loop-rest.rest.now in
    let run : ℕ = c.printable_lanes-run.result in
    ap has_invalid_byte (take_rest rest run) ∙ invalid-run run rest c.printable_lanes-run.ensures.run ∙ c.loop-rest.invariant.0
