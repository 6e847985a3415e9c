use Rattle.std.proofs.Common.{sym, ap, ◌∙◌, take}
use Rattle.mail_body.specs.Quoted.{last_bytes}
use Rattle.mail_body.proofs.QuotedSteps.{robust_end}
use Rattle.mail_body.proofs.quoted.HeldLine.finish.Goals as goal

pub returns-in-NoEscape-clause-value : goal.returns-in-NoEscape-clause-value
returns-in-NoEscape-clause-value c =
    let line = c.args.self.now in
    sym (robust_end line.begun (take line.count line.blanks.items) line.held.plain line.held.blank ∙ ap last_bytes c.in-NoEscape.is)

pub returns-in-Equals-clause-value : goal.returns-in-Equals-clause-value
returns-in-Equals-clause-value c =
    let line = c.args.self.now in
    sym (robust_end line.begun (take line.count line.blanks.items) line.held.plain line.held.blank ∙ ap last_bytes c.in-Equals.is)

pub returns-in-OneByte-clause-value : goal.returns-in-OneByte-clause-value
returns-in-OneByte-clause-value c =
    let line = c.args.self.now in
    c.put.ensures.written ∙ sym (robust_end line.begun (take line.count line.blanks.items) line.held.plain line.held.blank ∙ ap last_bytes c.in-OneByte.is)
