use Rattle.std.proofs.Common.{◌∙◌}
use Rattle.std.proofs.lemmas.List.{take_rest}
use Rattle.enc_drivers.proofs.Turns.{goes_more}
use Rattle.enc_drivers.proofs.drivers.general.GeneralDriver.run.Goals as goal

pub returns-in-Some-clause-goes : goal.returns-in-Some-clause-goes
returns-in-Some-clause-goes g c =
    let rest = take_rest c.args.src.now c.loop-read.read in
    goes_more _ _ _ _ _ _ _ _ _ _ _ _ _ c.loop-read.invariant.goes (rw (c.loop-read.invariant.same_code, rest, c.in-Some.is) at c.unit-result.ensures.goes)

pub returns-then-is_run-clause-goes : goal.returns-then-is_run-clause-goes
returns-then-is_run-clause-goes g c =
    let rest = take_rest c.args.src.now c.loop-read.read in
    goes_more _ _ _ _ _ _ _ _ _ _ _ _ _ c.loop-read.invariant.goes (rw (c.loop-read.invariant.same_code, rest, c.in_default.is) at c.unit-result.ensures.goes)

pub loop-read-preserved : goal.loop-read-preserved
loop-read-preserved g c =
    let rest = take_rest c.args.src.now c.loop-read.read in
    record {
      goes = goes_more _ _ _ _ _ _ _ _ _ _ _ _ _ c.loop-read.invariant.goes (rw (c.loop-read.invariant.same_code, rest, c.in_default.is) at c.unit-result.ensures.goes);
      nothing = c.unit-result.ensures.nothing c.in_default.is;
      same_code = c.unit-result.ensures.same_code ∙ c.loop-read.invariant.same_code;
    }
