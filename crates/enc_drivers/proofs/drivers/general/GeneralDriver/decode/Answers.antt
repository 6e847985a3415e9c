use Rattle.std.proofs.Common.{◌∙◌}
use Rattle.std.proofs.lemmas.List.{take_rest}
use Rattle.enc_drivers.proofs.Turns.{goes_more}
use Rattle.enc_drivers.proofs.drivers.general.GeneralDriver.decode.Goals as goal

pub loop-result-init : goal.loop-result-init
loop-result-init g c = record { goes = rw c.in_default.is at c.few_units-result.ensures.goes; same_code = c.few_units-result.ensures.same_code }

pub returns-in-Some-result-clause-goes : goal.returns-in-Some-result-clause-goes
returns-in-Some-result-clause-goes g c =
    let rest = take_rest c.args.src.now c.loop-result.read in
    goes_more _ _ _ _ _ _ _ _ _ _ _ _ _ c.loop-result.invariant.goes (rw (c.loop-result.invariant.same_code, rest, c.in-Some-result.is) at c.turn-result.ensures.goes)

pub loop-result-preserved : goal.loop-result-preserved
loop-result-preserved g c =
    let rest = take_rest c.args.src.now c.loop-result.read in
    record {
      goes = goes_more _ _ _ _ _ _ _ _ _ _ _ _ _ c.loop-result.invariant.goes (rw (c.loop-result.invariant.same_code, rest, c.in_default-result.is) at c.turn-result.ensures.goes);
      same_code = c.turn-result.ensures.same_code ∙ c.loop-result.invariant.same_code;
    }
