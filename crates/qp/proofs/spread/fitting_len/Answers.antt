use Rattle.std.proofs.Common.{◌≡◌, ◌+◌, ◌≤◌, length, take, ap, subst, arith}
use Rattle.qp.specs.Blocks.{spread}
use Rattle.qp.proofs.BlockLemmas.{spread-none}
use Rattle.qp.proofs.spread.fitting_len.Goals as goal

pub returns-clause-fits : goal.returns-clause-fits
returns-clause-fits c = λ text long told. omega (arith, ap length spread-none)

pub returns-clause-next : goal.returns-clause-next
returns-clause-next c = λ text long told some.
    let end : c.loop-most.most ≡ 0 = omega arith in
    subst (λ n. c.args.left ≤ length (spread (take (n + 1) text))) end (c.loop-most.invariant.next text long told (omega (arith, some)))
