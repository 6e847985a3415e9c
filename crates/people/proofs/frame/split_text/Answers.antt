use Rattle.std.proofs.Common.{ℕ, ◌<◌, List, length, false, sym, ◌∙◌, arith}
use Rattle.std.proofs.lemmas.List.{take_rest}
use Rattle.people.specs.TextSteps.{cut_after}
use Rattle.people.proofs.TextLemmas.{at-start, front-none, turn}
use Rattle.people.proofs.frame.split_text.Goals as goal

pub loop-at-init : goal.loop-at-init
loop-at-init c = sym (at-start c.args.bytes.now) ∙ front-none (cut_after false c.args.bytes.now)

pub loop-at-preserved : goal.loop-at-preserved
loop-at-preserved c =
    let s : List ℕ = c.args.bytes.now in
    let at : ℕ = c.loop-at.at in
    let l : at < length s = omega arith in
    turn s at c.loop-at.after_equals l (rw take_rest at c.in-Inside.ensures) c.loop-at.invariant
