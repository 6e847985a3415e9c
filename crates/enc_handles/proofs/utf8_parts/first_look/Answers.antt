use Rattle.std.proofs.Common.{◌∙◌, arith, inl}
use Rattle.enc_handles.proofs.Fronts.{valid_len-near}
use Rattle.enc_handles.proofs.utf8_parts.first_look.Goals as goal

pub returns-then-near-len-ge4-clause-longest : goal.returns-then-near-len-ge4-clause-longest
returns-then-near-len-ge4-clause-longest c =
    let value = c.valid_len-len.ensures.value in
    let near = c.min-near.ensures in
    let left = c.if-near-len-ge4.true in value ∙ valid_len-near c.args.rest.now c.min-near.result (omega arith) (inl (omega arith))
