use Rattle.std.proofs.Common.{◌≡◌, ◌-◌, true, sym, subst, arith}
use Rattle.qp.specs.Blocks.{goes_within}
use Rattle.qp.proofs.BlockLemmas.{within-cut, within-whole}
use Rattle.qp.proofs.spread.within_len.Goals as goal

pub returns-then-ends_blank-clause-within : goal.returns-then-ends_blank-clause-within
returns-then-ends_blank-clause-within c =
    let less : c.saturating_sub.result ≡ c.before_return-run.result - 1 = omega arith in
    subst (λ n. goes_within n c.args.text.now ≡ true) (sym less) (within-cut c.before_return-run.result c.args.text.now (omega (arith, c.requires, c.before_return-run.ensures.few)) c.before_return-run.ensures.run)

pub returns-clause-within : goal.returns-clause-within
returns-clause-within c = within-whole c.before_return-run.result c.args.text.now (omega (arith, c.requires, c.before_return-run.ensures.few)) c.before_return-run.ensures.run (sym c.if-ends_blank.ensures)
