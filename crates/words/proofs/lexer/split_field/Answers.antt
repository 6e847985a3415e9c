use Rattle.std.proofs.Common.{sym}
use Rattle.words.proofs.Fields.{field-at-end, field-empty, field-other, field-found}
use Rattle.words.proofs.lexer.split_field.Goals as goal
use Rattle.words.proofs.lexer.split_field.Goals.{then-end-eq0-via-then-end-eq0, then-end-eq0-via-else-end-eq0+then-bytes-end-ne-QUESTION_MARK}

pub returns-in_err-end-clause-none : goal.returns-in_err-end-clause-none
returns-in_err-end-clause-none c =
    rw c.from_residual.ensures (field-at-end c.args.bytes.now (sym c.in_err-end.ensures))

pub returns-then-end-eq0-clause-none : goal.returns-then-end-eq0-clause-none
returns-then-end-eq0-clause-none c =
    elim c.then-end-eq0.branch [
      | then-end-eq0-via-then-end-eq0 w ↦ field-empty c.args.bytes.now c.in_ok-end.end (sym c.in_ok-end.ensures) w.if-end-eq0.true
      | then-end-eq0-via-else-end-eq0+then-bytes-end-ne-QUESTION_MARK w ↦ field-other c.args.bytes.now c.in_ok-end.end (sym c.in_ok-end.ensures) w.if-bytes-end-ne-QUESTION_MARK.true
    ]

pub returns-clause-found : goal.returns-clause-found
returns-clause-found c = field-found c.args.bytes.now c.in_ok-end.end (sym c.in_ok-end.ensures) c.if-end-eq0.false c.if-bytes-end-ne-QUESTION_MARK.false
