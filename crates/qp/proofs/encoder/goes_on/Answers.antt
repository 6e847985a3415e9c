use Rattle.std.proofs.Common.{◌≡◌, ◌&&◌, not, length, sym, ap, ◌∙◌, arith}
use Rattle.qp.specs.Items.{begins_break}
use Rattle.qp.proofs.ItemLemmas.{goes_on-none, goes_on-some}
use Rattle.qp.proofs.encoder.goes_on.Goals as goal

pub returns-then-is_empty : goal.returns-then-is_empty
returns-then-is_empty c = λ mode kept.
    let none : length c.args.after.now ≡ 0 = grind arith in
    goes_on-none mode c.args.after.now none

pub returns : goal.returns
returns c = λ mode kept.
    let after = c.args.after.now in
    let some : ¬ (length after ≡ 0) = grind arith in
    goes_on-some mode after some ∙ ap not (ap (λ t. t && begins_break after) kept ∙ sym c.is_break.ensures)
