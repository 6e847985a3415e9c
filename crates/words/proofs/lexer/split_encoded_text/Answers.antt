use Rattle.std.proofs.Common.{sym}
use Rattle.words.proofs.Fields.{text-at-end, text-other, text-found}
use Rattle.words.proofs.lexer.split_encoded_text.Goals as goal

pub returns-in_err-end-clause-none : goal.returns-in_err-end-clause-none
returns-in_err-end-clause-none c =
    rw c.from_residual.ensures (text-at-end c.args.bytes.now (sym c.in_err-end.ensures))

pub returns-then-bytes-end-ne-QUESTION_MARK-clause-none :
    goal.returns-then-bytes-end-ne-QUESTION_MARK-clause-none
returns-then-bytes-end-ne-QUESTION_MARK-clause-none c = text-other c.args.bytes.now c.in_ok-end.end (sym c.in_ok-end.ensures) c.if-bytes-end-ne-QUESTION_MARK.true

pub returns-clause-found : goal.returns-clause-found
returns-clause-found c = text-found c.args.bytes.now c.in_ok-end.end (sym c.in_ok-end.ensures) c.if-bytes-end-ne-QUESTION_MARK.false
