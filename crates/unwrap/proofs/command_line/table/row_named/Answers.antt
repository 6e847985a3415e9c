use Rattle.unwrap.proofs.Matching.{row_is_simple}
use Rattle.unwrap.proofs.command_line.table.row_named.Goals as goal

pub returns-in-Some-clause-simple : goal.returns-in-Some-clause-simple
returns-in-Some-clause-simple c = row_is_simple _ c.row_of.result c.row_of.ensures
