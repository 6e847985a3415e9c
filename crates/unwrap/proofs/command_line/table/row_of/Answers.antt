use Rattle.unwrap.specs.Table.{commands, row_of}
use Rattle.unwrap.proofs.command_line.table.row_of.Goals as goal

pub returns : goal.returns
unfolding row_of commands
returns c = c.row_in.ensures
