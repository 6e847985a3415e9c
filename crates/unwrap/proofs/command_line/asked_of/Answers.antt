use Rattle.std.proofs.Common.{ap, ◌∙◌}
use Rattle.clap.specs.Words.{is_simple_and_free}
use Rattle.unwrap.specs.Asked.{found_in}
use Rattle.unwrap.specs.Table.{row_view}
use Rattle.unwrap.proofs.Asking.{asked_found, asked_none}
use Rattle.unwrap.proofs.command_line.asked_of.Goals as goal

pub matches_in-requires : goal.matches_in-requires
matches_in-requires c = ap is_simple_and_free c.in_ok-command.ensures ∙ c.requires

pub returns-in-Ok : goal.returns-in-Ok
returns-in-Ok c = asked_found (found_in (row_view c.args.row).name) _ _ c.in_ok-command.ensures _ _ c.in-Ok.ensures c.found_in.result c.found_in.ensures

pub returns-in-Err : goal.returns-in-Err
returns-in-Err c = asked_none (found_in (row_view c.args.row).name) _ _ c.in_ok-command.ensures _ c.in-Err.refusal c.in-Err.ensures
