use Rattle.std.proofs.Common.{inr, Err, ap, ◌∙◌}
use Rattle.words.specs.Fault.{NotUtf8}
use Rattle.words.proofs.Parsing.{clear-text, clear-fault}
use Rattle.words.proofs.evaluator.append_clear_text.Goals as goal

pub returns-in_ok-extend_from_slice-in-Ok-clause-text : goal.returns-in_ok-extend_from_slice-in-Ok-clause-text
returns-in_ok-extend_from_slice-in-Ok-clause-text c =
    let utf_8 = c.in-Ok.ensures.cases.1 in
    record { more = c.args.bytes.now; shows = clear-text c.args.bytes.now utf_8; utf_8 = utf_8; joined = c.in_ok-extend_from_slice-in-Ok.ensures.items }

pub returns-in-Err-clause-fault : goal.returns-in-Err-clause-fault
returns-in-Err-clause-fault c =
    inr (clear-fault c.args.bytes.now c.in-Err.ensures.cases.0 ∙ ap (λ z. Err (NotUtf8 z)) (cc (c.in-Err.ensures.valid_len, c.valid_up_to-valid_up_to.ensures)))
