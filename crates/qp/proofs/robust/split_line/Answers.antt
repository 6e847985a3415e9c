use Rattle.std.proofs.Common.{ℕ, ◌+◌, ◌++◌, List, take, drop, sym, ◌∙◌, ap}
use Rattle.std.proofs.lemmas.List.{take_rest}
use Rattle.qp.specs.Text.{kept}
use Rattle.qp.specs.Line.{line_value}
use Rattle.qp.specs.Robust.{robust, line_end}
use Rattle.qp.proofs.Feeds.{no_feed, no_feed_before, feed_at}
use Rattle.qp.proofs.Reading.{robust_one_line, robust_line}
use Rattle.qp.proofs.robust.split_line.Goals as goal

pub returns-in_err-end-clause-none : goal.returns-in_err-end-clause-none
returns-in_err-end-clause-none c = rw c.from_residual.ensures (robust_one_line c.args.text.now (no_feed c.args.text.now c.in_err-end.ensures))

pub returns-clause-some : goal.returns-clause-some
returns-clause-some c =
    let text : List ℕ = c.args.text.now in
    let end : ℕ = c.in_ok-end.end in
    let front : List ℕ = kept (take end text) in
    ap robust (feed_at text end c.in_ok-end.ensures.0.high c.in_ok-end.ensures.1)
    ∙ robust_line (take end text) (drop (end + 1) text) (no_feed_before text end c.in_ok-end.ensures.0.before)
    ∙ ap (λ t. line_value front ++ line_end front ++ robust t) (sym (take_rest text (end + 1)))
