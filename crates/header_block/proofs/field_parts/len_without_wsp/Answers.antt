use Rattle.std.proofs.Common.{rules, arith, ◌≡◌, ◌-◌, length}
use Rattle.std.specs.List.{suffix_len}
use Rattle.std.proofs.lemmas.List.Sums.{suffix_len_is}
use Rattle.header_block.specs.Fields.{is_wsp}
use Rattle.header_block.proofs.field_parts.len_without_wsp.Goals as goal

pub returns-else-is_wsp-clause-len : goal.returns-else-is_wsp-clause-len
returns-else-is_wsp-clause-len c =
    let is : suffix_len is_wsp c.args.text.now ≡ length c.args.text.now - c.loop-len.len =
    suffix_len_is is_wsp c.args.text.now c.loop-len.len 0 c.loop-len.invariant.within c.loop-len.invariant.behind (λ l. search rules) in
    omega (arith, is, c.loop-len.invariant.within)

pub returns-after-loop-len-clause-len : goal.returns-after-loop-len-clause-len
returns-after-loop-len-clause-len c =
    let is : suffix_len is_wsp c.args.text.now ≡ length c.args.text.now - c.loop-len.len =
    suffix_len_is is_wsp c.args.text.now c.loop-len.len 0 c.loop-len.invariant.within c.loop-len.invariant.behind (λ l. absurd (omega arith)) in
    omega (arith, is, c.loop-len.invariant.within)
