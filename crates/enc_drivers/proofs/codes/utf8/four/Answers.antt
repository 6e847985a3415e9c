use Rattle.std.proofs.Common.{sym, ◌∙◌}
use Rattle.enc_handles.proofs.TextLemmas.{encode_four}
use Rattle.enc_drivers.proofs.codes.utf8.four.Goals as goal

pub returns : goal.returns
returns c = c.four.ensures ∙ sym (encode_four c.args.code c.requires.low)
