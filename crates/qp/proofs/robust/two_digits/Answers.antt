use Rattle.qp.proofs.DigitLemmas.{is-digit, digits-say, no-digit, keeps-high, keeps-low}
use Rattle.qp.proofs.robust.two_digits.Goals as goal

pub returns-clause-value : goal.returns-clause-value
returns-clause-value c =
    let high = is-digit c.args.high _ c.digit-tens.ensures c.if-tens-ge16.false in
    let low = is-digit c.args.low _ c.digit-ones.ensures c.if-ones-ge16.false in
    digits-say c.args.high c.args.low _ _ high.0 low.0 high.1 low.1

pub returns-clause-high : goal.returns-clause-high
returns-clause-high c = (is-digit c.args.high _ c.digit-tens.ensures c.if-tens-ge16.false).0

pub returns-clause-low : goal.returns-clause-low
returns-clause-low c = (is-digit c.args.low _ c.digit-ones.ensures c.if-ones-ge16.false).0

pub returns-then-tens-ge16-clause-none : goal.returns-then-tens-ge16-clause-none
returns-then-tens-ge16-clause-none c = keeps-high c.args.high c.args.low (no-digit c.args.high _ c.ranges.high.fits c.digit-tens.ensures c.if-tens-ge16.true)

pub returns-then-ones-ge16-clause-none : goal.returns-then-ones-ge16-clause-none
returns-then-ones-ge16-clause-none c = keeps-low c.args.high c.args.low (no-digit c.args.low _ c.ranges.low.fits c.digit-ones.ensures c.if-ones-ge16.true)
