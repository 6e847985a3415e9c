use Rattle.std.proofs.Common.{sym, ◌∙◌}
use Rattle.unwrap.proofs.NamedFiles.{split_none, split_some}
use Rattle.unwrap.proofs.command_line.values.file_of.Goals as goal

pub returns-in-Some : goal.returns-in-Some
returns-in-Some c = c.named_file.ensures ∙ split_some c.args.word.now c.split_once.result _ _ c.split_once.ensures.cases c.in-Some.is

pub returns-in-None : goal.returns-in-None
returns-in-None c = sym (split_none c.args.word.now c.split_once.result c.split_once.ensures.cases c.in-None.is)
