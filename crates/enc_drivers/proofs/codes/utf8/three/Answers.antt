use Rattle.std.proofs.Common.{sym, ◌∙◌}
use Rattle.enc_handles.proofs.TextLemmas.{encode_three}
use Rattle.enc_drivers.proofs.codes.utf8.three.Goals as goal

pub returns : goal.returns
returns c = c.three.ensures ∙ sym (encode_three c.args.code c.requires.low c.requires.high)
