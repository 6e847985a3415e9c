use Rattle.std.proofs.Common.{◌≡◌, ℕ, ◌≤◌, List, ◌++◌, refl, sym, ap, ◌∙◌, length, take, arith, length-take-le}
use Rattle.qp.specs.Text.{kept}
use Rattle.mail_body.specs.declared.quoted.TheConstants.{MOST_BLANKS}
use Rattle.mail_body.specs.Quoted.{has_blank_run}
use Rattle.mail_body.specs.HeldLine.{held_line}
use Rattle.mail_body.proofs.QuotedLines.{kept_yes}
use Rattle.mail_body.proofs.QuotedSteps.{run_held_full}
use Rattle.mail_body.proofs.QuotedKeeps.{DecodesQuoted-dropped, DecodesQuoted-blank, DecodesQuoted-goes_on, DecodesQuoted-feed}
use Rattle.mail_body.proofs.quoted.HeldLine.with_byte.Goals as goal

few_blanks : (n : ℕ) (xs : List ℕ) → n ≤ length xs → length xs ≡ MOST_BLANKS → length (take n xs) ≤ MOST_BLANKS
few_blanks n xs within most = let e = length-take-le n xs within in omega arith

pub returns-then-not-is_text-clause-decodes : goal.returns-then-not-is_text-clause-decodes
returns-then-not-is_text-clause-decodes c =
    DecodesQuoted-dropped (held_line c.args.self.now) c.args.byte (take c.args.at c.args.out.now) (sym c.is_text.ensures ∙ c.if-not-is_text.true)

pub returns-then-hold-clause-decodes : goal.returns-then-hold-clause-decodes
returns-then-hold-clause-decodes c =
    DecodesQuoted-blank (held_line c.args.self.now) c.args.byte (held_line c.hold.new.self) (take c.args.at c.args.out.now) (take c.args.at c.args.out.now)
    (sym c.is_text.ensures ∙ c.if-not-is_text.false) (c.hold.ensures.held c.if-hold.true) refl

pub returns-else-hold-clause-none : goal.returns-else-hold-clause-none
returns-else-hold-clause-none c none rest =
    let line = c.args.self.now in
    let full = c.hold.ensures.full c.if-hold.false in
    ap (λ t. has_blank_run (held_line line ++ t)) (kept_yes c.args.byte rest (sym c.is_text.ensures ∙ c.if-not-is_text.false))
    ∙ run_held_full MOST_BLANKS line.begun (take line.count line.blanks.items) c.args.byte (kept rest) line.held.plain line.held.blank
    (length-take-le line.count line.blanks.items line.held.within ∙ full ∙ line.held.most) (sym c.is_blank.ensures ∙ c.if-is_blank.true)

pub returns-then-byte-eq10-clause-decodes : goal.returns-then-byte-eq10-clause-decodes
returns-then-byte-eq10-clause-decodes c =
    let line = c.args.self.now in
    DecodesQuoted-feed line.begun (take line.count line.blanks.items) c.args.byte (held_line c.end_line.new.self) (take c.args.at c.args.out.now) (take c.end_line.result c.end_line.new.out)
    line.held.plain line.held.blank (few_blanks line.count line.blanks.items line.held.within line.held.most) c.if-byte-eq10.true c.end_line.ensures.goes_on

pub returns-clause-decodes : goal.returns-clause-decodes
returns-clause-decodes c =
    let line = c.args.self.now in
    DecodesQuoted-goes_on line.begun (take line.count line.blanks.items) c.args.byte (held_line c.go_on.new.self) (take c.args.at c.args.out.now) (take c.go_on.result c.go_on.new.out)
    line.held.plain line.held.blank (few_blanks line.count line.blanks.items line.held.within line.held.most)
    (sym c.is_text.ensures ∙ c.if-not-is_text.false) (sym c.is_blank.ensures ∙ c.if-is_blank.false) c.go_on.ensures.goes_on
