use Rattle.std.proofs.Common.{[], refl, take}
use Rattle.std.proofs.lemmas.Bool.{ne_eqb}
use Rattle.mail_body.specs.HeldLine.{held_line}
use Rattle.mail_body.proofs.QuotedKeeps.{GoesOn-at, GoesOn-literal}
use Rattle.mail_body.proofs.quoted.HeldLine.begin.Goals as goal

pub returns-clause-goes_on : goal.returns-clause-goes_on
returns-clause-goes_on c =
    GoesOn-at [] [] c.args.byte (held_line c.args.self.now) [] (take c.args.at c.args.out.now) (take c.put.result c.put.new.out) refl c.requires.none
    (GoesOn-literal c.args.byte (take c.args.at c.args.out.now) (take c.put.result c.put.new.out) c.requires.plain (ne_eqb c.args.byte 61 c.if-byte-eq61.false) c.put.ensures.written)
