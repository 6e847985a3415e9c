use Rattle.std.proofs.Common.{◌≡◌, drop}
use Rattle.clap.specs.Words.{app_of}
use Rattle.unwrap.specs.Table.{groups_of, with_groups}
use Rattle.unwrap.proofs.command_line.description.with_groups.Given as goal

abbrev pub invariant-loop-group : goal.invariant-loop-group
invariant-loop-group l =
    with_groups (app_of l.fn.command) (groups_of l.groups)
    ≡ with_groups (app_of l.command) (groups_of (drop l.group-index l.groups))
