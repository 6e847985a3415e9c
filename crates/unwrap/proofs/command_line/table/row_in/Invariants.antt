use Rattle.std.proofs.Common.{◌≡◌, drop}
use Rattle.unwrap.specs.Table.{row_in, rows_of}
use Rattle.unwrap.proofs.command_line.table.row_in.Given as goal

abbrev pub invariant-loop-row : goal.invariant-loop-row
invariant-loop-row l = row_in (rows_of l.rows) l.word ≡ row_in (rows_of (drop l.row-index l.rows)) l.word
