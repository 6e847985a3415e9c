use Rattle.std.proofs.Common.{◌≡◌, drop}
use Rattle.clap.specs.Words.{app_of}
use Rattle.unwrap.specs.Table.{arguments_of, with_arguments}
use Rattle.unwrap.proofs.command_line.description.with_arguments.Given as goal

abbrev pub invariant-loop-argument : goal.invariant-loop-argument
invariant-loop-argument l =
    with_arguments (app_of l.fn.command) (arguments_of l.arguments)
    ≡ with_arguments (app_of l.command) (arguments_of (drop l.argument-index l.arguments))
