use Rattle.mail_body.proofs.Bodies.{body-ends}
use Rattle.mail_body.proofs.laws.ends_at_equals.Goals as goal

pub returns : goal.returns
returns c front rest = body-ends front rest
