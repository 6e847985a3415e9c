use Rattle.mail_body.proofs.Bodies.{body-ignores}
use Rattle.mail_body.proofs.laws.other_bytes_are_ignored.Goals as goal

pub returns : goal.returns
returns c front rest b apart other = body-ignores front b rest apart other
