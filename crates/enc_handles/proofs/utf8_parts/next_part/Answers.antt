use Rattle.std.proofs.Common.{◌+◌, ◌∙◌, arith, inl, length-take}
use Rattle.std.proofs.lemmas.Bool.{leb-true}
use Rattle.enc_handles.proofs.Fronts.{valid_len-near}
use Rattle.enc_handles.proofs.utf8_parts.next_part.Goals as goal

pub returns-else-near-rest-clause-ends : goal.returns-else-near-rest-clause-ends
returns-else-near-rest-clause-ends c =
    let near = c.without_cut_tail-part.result + c.min-2.result in
    let value = c.valid_len-len.ensures.value in
    let part = length-take c.min.result c.args.rest.now in
    let within = c.without_cut_tail-part.ensures.1 in
    let more = c.min-2.ensures in
    λ h. let left = leb-true 4 _ h in value ∙ valid_len-near c.args.rest.now near (omega arith) (inl (omega arith))
