use Rattle.std.proofs.Common.{sym, ◌∙◌}
use Rattle.enc_handles.proofs.TextLemmas.{encode_two}
use Rattle.enc_drivers.proofs.codes.utf8.two.Goals as goal

pub returns : goal.returns
returns c = c.two.ensures ∙ sym (encode_two c.args.code c.requires.low c.requires.high)
