use Rattle.std.proofs.Common.{ap, ◌∙◌}
use Rattle.clap.specs.Words.{found_of, one_text}
use Rattle.clap.proofs.WalkLemmas.{one_text-rows}
use Rattle.unwrap.specs.Values.{is_true_text}
use Rattle.unwrap.proofs.Matching.{flag_read}
use Rattle.unwrap.proofs.command_line.values.flag_given.Goals as goal

pub returns : goal.returns
returns c =
    let f = found_of c.args.matches.now in
    c.unwrap_or.ensures ∙ flag_read _ (one_text f c.args.id.now) _ c.get_one.ensures.none c.get_one.ensures.value
    ∙ ap is_true_text (one_text-rows f c.args.id.now)
