use Rattle.std.proofs.Common.{refl, ◌∙◌}
use Rattle.std.proofs.lemmas.List.{take_rest}
use Rattle.enc_drivers.proofs.Turns.{goes_nothing, goes_more, goes_full}
use Rattle.enc_drivers.proofs.drivers.general.GeneralDriver.few_units.Goals as goal

pub loop-read-init : goal.loop-read-init
loop-read-init g c = record { goes = goes_nothing _ _ _ _ _ _; same_code = refl }

pub returns-in-Some-clause-goes : goal.returns-in-Some-clause-goes
returns-in-Some-clause-goes g c =
    let rest = take_rest c.args.src.now c.loop-read.read in
    goes_more _ _ _ _ _ _ _ _ _ _ _ _ _ c.loop-read.invariant.goes (rw (c.loop-read.invariant.same_code, rest, c.in-Some.is) at c.unit-result.ensures.goes)

pub loop-read-preserved : goal.loop-read-preserved
loop-read-preserved g c =
    let rest = take_rest c.args.src.now c.loop-read.read in
    record {
      goes = goes_more _ _ _ _ _ _ _ _ _ _ _ _ _ c.loop-read.invariant.goes (rw (c.loop-read.invariant.same_code, rest, c.in_default.is) at c.unit-result.ensures.goes);
      same_code = c.unit-result.ensures.same_code ∙ c.loop-read.invariant.same_code;
    }

pub returns-then-is_output_full-clause-goes : goal.returns-then-is_output_full-clause-goes
returns-then-is_output_full-clause-goes g c =
    let rest = take_rest c.args.src.now c.loop-read.read in
    let moved = rw (c.loop-read.invariant.same_code, rest, c.in-Some.is) at c.unit-result.ensures.goes in
    goes_more _ _ _ _ _ _ _ _ _ _ _ _ _ c.loop-read.invariant.goes (goes_full _ _ _ _ _ _ _ _ _ _ (c.if-is_output_full.ensures refl) moved)
