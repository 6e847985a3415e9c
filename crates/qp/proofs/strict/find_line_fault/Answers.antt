use Rattle.std.proofs.Common.{sym, ◌∙◌}
use Rattle.qp.specs.Text.{lines}
use Rattle.qp.specs.Strict.{without_empty_end}
use Rattle.qp.proofs.StrictLemmas.{fault-first, fault-none, fault-later, fault-here}
use Rattle.qp.proofs.strict.find_line_fault.Goals as goal

pub loop-line-init : goal.loop-line-init
loop-line-init c = fault-first c.args.limit (without_empty_end (lines c.args.input.now))

pub loop-line-preserved : goal.loop-line-preserved
loop-line-preserved c =
    sym (fault-later c.args.limit c.loop-line.hard c.loop-line.soft c.in-Ok.line_is_soft c.in-Some.line.now (without_empty_end (lines c.loop-line.rest.now)) (without_empty_end (lines c.in-Some.after.now))
    c.in-Some.ensures.some c.in-Ok.ensures.none c.in-Ok.ensures.soft)
    ∙ c.loop-line.invariant

pub returns-in-Err : goal.returns-in-Err
returns-in-Err c =
    sym (fault-here c.args.limit c.loop-line.hard c.loop-line.soft c.in-Some.line.now (without_empty_end (lines c.loop-line.rest.now)) (without_empty_end (lines c.in-Some.after.now)) c.in-Err.fault
    c.in-Some.ensures.some c.in-Err.ensures.fault)
    ∙ c.loop-line.invariant

pub returns : goal.returns
returns c =
    c.end_fault.ensures
    ∙ sym (fault-none c.args.limit c.loop-line.hard c.loop-line.soft (without_empty_end (lines c.loop-line.rest.now)) c.in_default.ensures.none)
    ∙ c.loop-line.invariant
