use Rattle.std.proofs.Common.{◌+◌, ℕ, Option, drop, subst, arith}
use Rattle.std.specs.Prelude.{slice_index_or}
use Rattle.enc_front.specs.LeastRow.{IsPlaceIn}
use Rattle.enc_front.specs.Tables.{run_end}
use Rattle.enc_front.proofs.LeastRowLemmas.{all_none, first_none, row_none, row_some}
use Rattle.enc_front.proofs.index.place_by_rows.Goals as goal
use Rattle.enc_front.proofs.index.place_by_rows.Goals.{After-place_in}

pub loop-at-init : goal.loop-at-init
loop-at-init c = first_none c.args.rows.now c.args.scalar c.requires

by_run : (c : After-place_in)
    → IsPlaceIn (slice_index_or c.args.rows.now c.loop-at.at (0, 0))
    (run_end (drop (c.loop-at.at + 1) c.args.rows.now)) c.args.scalar c.place_in.result
by_run c =
    let P : ℕ → Type 0 = λ end. IsPlaceIn (slice_index_or c.args.rows.now c.loop-at.at (0, 0)) end
    c.args.scalar c.place_in.result in
    subst P c.end_behind.ensures c.place_in.ensures

pub returns-in-Some : goal.returns-in-Some
returns-in-Some c =
    let P : Option ℕ → Type 0 = λ o. IsPlaceIn (slice_index_or c.args.rows.now c.loop-at.at (0, 0))
    (run_end (drop (c.loop-at.at + 1) c.args.rows.now)) c.args.scalar o in
    row_some c.args.rows.now c.args.scalar c.loop-at.at (0, 0) c.in-Some.place c.requires
    (omega arith) c.loop-at.invariant
    (subst P c.in-Some.is (by_run (goal.at.returns-in-Some c).After-place_in))

pub loop-at-preserved : goal.loop-at-preserved
loop-at-preserved c =
    let P : Option ℕ → Type 0 = λ o. IsPlaceIn (slice_index_or c.args.rows.now c.loop-at.at (0, 0))
    (run_end (drop (c.loop-at.at + 1) c.args.rows.now)) c.args.scalar o in
    row_none c.args.rows.now c.args.scalar c.loop-at.at (0, 0) c.requires
    (omega arith) c.loop-at.invariant
    (subst P c.in-None.is (by_run (goal.at.loop-at-preserved c).After-place_in))

pub returns : goal.returns
returns c = all_none c.args.rows.now c.args.scalar c.loop-at.at (omega arith) c.loop-at.invariant
