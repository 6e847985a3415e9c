use Rattle.std.proofs.Common.{[], ◌++◌, refl, sym, ap, ◌∙◌, take, append-nil}
use Rattle.mail_body.specs.Quoted.{end_bytes}
use Rattle.mail_body.specs.HeldLine.{held_line}
use Rattle.mail_body.proofs.QuotedKeeps.{GoesOn-at, GoesOn-feed}
use Rattle.mail_body.proofs.quoted.HeldLine.end_line.Goals as goal

pub returns-in-NoEscape-clause-goes_on : goal.returns-in-NoEscape-clause-goes_on
returns-in-NoEscape-clause-goes_on c =
    let line = c.args.self.now in
    let old = take c.args.at c.args.out.now in
    GoesOn-at (held_line line) (held_line line) 10 (held_line c.keep.new.self) [] old (take c.put.result c.put.new.out) refl c.keep.ensures
    (GoesOn-feed line.begun (take line.count line.blanks.items) old (take c.put.result c.put.new.out) line.held.plain line.held.blank
    (c.put.ensures.written ∙ sym (ap (λ g. old ++ end_bytes g) c.in-NoEscape.is)))

pub returns-in-Equals-clause-goes_on : goal.returns-in-Equals-clause-goes_on
returns-in-Equals-clause-goes_on c =
    let line = c.args.self.now in
    let old = take c.args.at c.args.out.now in
    GoesOn-at (held_line line) (held_line line) 10 (held_line c.keep.new.self) [] old old refl c.keep.ensures
    (GoesOn-feed line.begun (take line.count line.blanks.items) old old line.held.plain line.held.blank
    (sym (append-nil old) ∙ sym (ap (λ g. old ++ end_bytes g) c.in-Equals.is)))

pub returns-in-OneByte-clause-goes_on : goal.returns-in-OneByte-clause-goes_on
returns-in-OneByte-clause-goes_on c =
    let line = c.args.self.now in
    let old = take c.args.at c.args.out.now in
    let new = take c.put-in-OneByte.result c.put-in-OneByte.new.out in
    GoesOn-at (held_line line) (held_line line) 10 (held_line c.keep.new.self) [] old new refl c.keep.ensures
    (GoesOn-feed line.begun (take line.count line.blanks.items) old new line.held.plain line.held.blank
    (c.put-in-OneByte.ensures.written ∙ sym (ap (λ g. old ++ end_bytes g) c.in-OneByte.is)))
