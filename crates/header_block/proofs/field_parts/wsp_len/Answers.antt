use Rattle.std.proofs.Common.{rules, arith, sym, length}
use Rattle.std.proofs.lemmas.List.Sums.{prefix_len_is}
use Rattle.header_block.specs.Fields.{is_wsp}
use Rattle.header_block.proofs.field_parts.wsp_len.Goals as goal

pub returns-then-not-is_wsp-clause-len : goal.returns-then-not-is_wsp-clause-len
returns-then-not-is_wsp-clause-len c =
    sym (prefix_len_is is_wsp c.args.text.now c.loop-i.i 0 (omega arith) c.loop-i.invariant (λ l. search rules))

pub returns-clause-len : goal.returns-clause-len
returns-clause-len c =
    sym (prefix_len_is is_wsp c.args.text.now (length c.args.text.now) 0 (omega arith) (λ k l. c.loop-i.invariant k (omega arith)) (λ l. absurd (omega arith)))
