use Rattle.std.proofs.Common.{◌≡◌, ◌+◌, sym, ◌∙◌, arith, take, drop}
use Rattle.std.specs.Prelude.{slice_index_or}
use Rattle.enc_front.specs.declared.tables.IndexKind.TheVariants.{Gb18030Ranges}
use Rattle.enc_front.specs.Tables.{row_why}
use Rattle.enc_front.proofs.RowLemmas.{goes_at, last_step, range_row, stops_at}
use Rattle.enc_front.proofs.rows.ranges_fault.Goals as goal
use Rattle.enc_front.proofs.rows.ranges_fault.Goals.{After-range_why}

reason : (c : After-range_why)
    → row_why Gb18030Ranges (take c.loop-at.at c.args.rows.now)
    (slice_index_or c.args.rows.now c.loop-at.at (0, 0)) (drop (c.loop-at.at + 1) c.args.rows.now)
    ≡ c.range_why.result
reason c =
    range_row (take c.loop-at.at c.args.rows.now)
    (slice_index_or c.args.rows.now c.loop-at.at (0, 0))
    (drop (c.loop-at.at + 1) c.args.rows.now) c.loop-at.last c.end_behind.result
    c.loop-at.invariant.last c.end_behind.ensures
    ∙ sym c.range_why.ensures

pub returns-in-Some : goal.returns-in-Some
returns-in-Some c =
    sym (sym c.loop-at.invariant.fault
    ∙ stops_at Gb18030Ranges c.args.rows.now c.loop-at.at (0, 0) c.in-Some.why (omega arith)
    (reason (goal.at.returns-in-Some c).After-range_why ∙ c.in-Some.is))

pub loop-at-preserved : goal.loop-at-preserved
loop-at-preserved c = record {
  last = sym (last_step c.args.rows.now c.loop-at.at (0, 0) (omega arith));
  fault = goes_at Gb18030Ranges c.args.rows.now c.loop-at.at (0, 0) (omega arith)
      (reason (goal.at.loop-at-preserved c).After-range_why ∙ c.in-None.is)
      ∙ c.loop-at.invariant.fault;
}
