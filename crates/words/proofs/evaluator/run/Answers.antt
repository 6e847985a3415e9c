use Rattle.std.proofs.Common.{map, ap, ◌∙◌}
use Rattle.enc_front.specs.Indexes.{indexes_of}
use Rattle.words.specs.Parsed.{parsed_of}
use Rattle.words.proofs.Known.{all_known}
use Rattle.words.proofs.evaluator.run.Goals as goal

pub text_of-requires : goal.text_of-requires
text_of-requires c =
    all_known (indexes_of c.args.tables.now) c.in_ok-slices.slices.items c.args.parsed.items
    (c.in_ok-slices.ensures ∙ ap (map parsed_of) c.deref.ensures.value) c.requires
