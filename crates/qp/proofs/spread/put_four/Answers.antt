use Rattle.std.proofs.Common.{ap, arith}
use Rattle.std.specs.Prelude.{count_ones}
use Rattle.qp.proofs.SpreadLemmas.{row_ok, few_ones, four_written, spread-ones}
use Rattle.qp.proofs.spread.put_four.Goals as goal

pub swizzle : goal.swizzle
swizzle c = row_ok c.args.set _ c.requires.set c.row-places.ensures

pub returns-clause-few : goal.returns-clause-few
returns-clause-few c = omega (arith, few_ones c.args.set c.requires.set)

pub returns-clause-end : goal.returns-clause-end
returns-clause-end c = λ four told long. omega (arith, spread-ones four, long, ap count_ones told)

pub returns-clause-written : goal.returns-clause-written
returns-clause-written c = λ k v long told same. four_written c.args.room.now c.args.group c.row-places.result c.args.at c.args.set k v c.requires.room c.requires.set c.row-places.ensures long told same
