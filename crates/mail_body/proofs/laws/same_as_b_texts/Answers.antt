use Rattle.mail_body.proofs.Values.{body-b_value}
use Rattle.mail_body.proofs.laws.same_as_b_texts.Goals as goal

pub returns : goal.returns
returns c body value h = body-b_value body value h
