use Rattle.std.proofs.Common.{◌≡◌, ℕ, ◌+◌, ◌∷◌, List, [], length, take, drop, refl, sym, ◌∙◌, ap, arith}
use Rattle.std.proofs.lemmas.List.{take_rest, nil_from_length}
use Rattle.qp.specs.Text.{lines}
use Rattle.qp.specs.Strict.{without_empty_end}
use Rattle.qp.proofs.Feeds.{no_feed, no_feed_before, feed_at}
use Rattle.qp.proofs.StrictLemmas.{lines-none, lines-feed, lines-last}
use Rattle.qp.proofs.strict.split_line.Goals as goal

pub returns-then-is_empty-clause-none : goal.returns-then-is_empty-clause-none
returns-then-is_empty-clause-none c =
    let none : length c.args.text.now ≡ 0 = grind arith in
    lines-none c.args.text.now (nil_from_length c.args.text.now none)

pub returns-in-Some-clause-some : goal.returns-in-Some-clause-some
returns-in-Some-clause-some c =
    let text : List ℕ = c.args.text.now in
    let end : ℕ = c.in-Some.end in
    lines-feed text (take end text) (drop (end + 1) text) (feed_at text end c.in-Some.ensures.0.high c.in-Some.ensures.1) (no_feed_before text end c.in-Some.ensures.0.before)
    ∙ ap (λ t. take end text ∷ without_empty_end (lines t)) (sym (take_rest text (end + 1)))

pub returns-in-None-clause-some : goal.returns-in-None-clause-some
returns-in-None-clause-some c =
    let text : List ℕ = c.args.text.now in
    let some : ¬ (length text ≡ 0) = grind arith in
    lines-last text [] some (no_feed text c.in-None.ensures) refl
