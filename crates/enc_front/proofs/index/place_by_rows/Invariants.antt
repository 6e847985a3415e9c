use Rattle.std.proofs.Common.{drop}
use Rattle.enc_front.specs.LeastRow.{NoneBefore}
use Rattle.enc_front.specs.Tables.{run_end}
use Rattle.enc_front.proofs.index.place_by_rows.Given as goal

abbrev pub invariant-loop-at : goal.invariant-loop-at
invariant-loop-at l = NoneBefore l.rows l.scalar (run_end (drop l.at l.rows))
