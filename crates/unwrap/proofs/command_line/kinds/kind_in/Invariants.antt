use Rattle.std.proofs.Common.{◌≡◌, drop}
use Rattle.unwrap.specs.Values.{kind_in, rows_of}
use Rattle.unwrap.proofs.command_line.kinds.kind_in.Given as goal

abbrev pub invariant-loop-row : goal.invariant-loop-row
invariant-loop-row l = kind_in (rows_of l.rows) l.word ≡ kind_in (rows_of (drop l.row-index l.rows)) l.word
