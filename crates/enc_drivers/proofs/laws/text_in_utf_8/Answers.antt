use Rattle.enc_drivers.proofs.CallLemmas.{text_in_utf_8}
use Rattle.enc_drivers.proofs.laws.text_in_utf_8.Goals as goal

pub returns : goal.returns
returns c = text_in_utf_8
