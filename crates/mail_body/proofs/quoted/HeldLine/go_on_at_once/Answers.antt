use Rattle.std.proofs.Common.{[], ◌∷◌, ◌++◌, sym, ap, ◌∙◌, take}
use Rattle.mail_body.specs.Quoted.{begun_bytes, has_plain}
use Rattle.mail_body.specs.HeldLine.{held_line}
use Rattle.mail_body.proofs.QuotedKeeps.{GoesOn-at, GoesOn-escape}
use Rattle.mail_body.proofs.quoted.HeldLine.go_on_at_once.Goals as goal

pub returns-in-OneByte-clause-goes_on : goal.returns-in-OneByte-clause-goes_on
returns-in-OneByte-clause-goes_on c =
    let line = c.args.self.now in
    let first = c.in-OneByte.first in
    let old = take c.args.at c.args.out.now in
    let new = take c.put_escape.result c.put_escape.new.out in
    GoesOn-at (held_line line) (61 ∷ first ∷ []) c.args.byte (held_line c.keep-in-OneByte.new.self) [] old new
    (λ i. begun_bytes (c.in-OneByte.is i) ++ take (c.requires.none i) line.blanks.items) c.keep-in-OneByte.ensures
    (GoesOn-escape first c.args.byte old new (sym (ap has_plain c.in-OneByte.is) ∙ line.held.plain) c.requires.plain c.put_escape.ensures.written)
