use Rattle.std.proofs.Common.{arith}
use Rattle.enc_front.proofs.LabelSearch.{first_ends, second_ends}
use Rattle.enc_front.proofs.encoding.is_before.Goals as goal

pub returns-in_default : goal.returns-in_default
returns-in_default c = second_ends c.args.a.now c.args.b.now c.loop-i.i 0
    (omega arith) c.in_default.ensures.lookup.3 c.loop-i.invariant.rest

pub returns : goal.returns
returns c = first_ends c.args.a.now c.args.b.now c.loop-i.i (omega arith) c.loop-i.invariant.within
    c.loop-i.invariant.rest
