use Rattle.std.proofs.Common.{◌+◌, ◌≤◌, length, drop, arith, sym, ap, length-drop, ◌∙◌}
use Rattle.std.proofs.lemmas.List.{take_rest}
use Rattle.enc_handles.proofs.Fronts.{utf8-join, valid_len-behind, valid_len-all}
use Rattle.enc_handles.proofs.utf8_parts.copy_parts.Goals as goal

pub loop-at-preserved : goal.loop-at-preserved
loop-at-preserved c =
    let src = c.args.src.now in
    let so_far = c.loop-at.invariant in
    let part = c.next_part-part.result.0 in
    let whole = rw take_rest at c.next_part-part.ensures.whole in
    let within : part ≤ length (drop c.loop-at.at src) = rw take_rest at c.next_part-part.ensures.within in
    let left = length-drop c.loop-at.at src in (
      omega arith,
      omega (arith, c.min-size.ensures),
      omega (arith, c.min-size.ensures),
      utf8-join src c.loop-at.at so_far.0 so_far.3 part whole,
      c.copy_part-in-loop-at.ensures.copied,
      c.copy_part-in-loop-at.ensures.same_length ∙ so_far.5,
    )

pub returns-after-loop-at-clause-longest : goal.returns-after-loop-at-clause-longest
returns-after-loop-at-clause-longest c =
    let so_far = c.loop-at.invariant in valid_len-all c.args.src.now c.loop-at.at so_far.0 so_far.3 c.loop-at-test.false

pub returns-then-last-clause-longest : goal.returns-then-last-clause-longest
returns-then-last-clause-longest c =
    let so_far = c.loop-at.invariant in
    let last = rw take_rest at (c.next_part-part.ensures.ends c.if-last.true) in
    ap (λ n. c.loop-at.at + n) last ∙ sym (valid_len-behind c.args.src.now c.loop-at.at so_far.0 so_far.3)

pub returns-in-Some-clause-longest : goal.returns-in-Some-clause-longest
returns-in-Some-clause-longest c =
    let few = rw take_rest at c.in-Some.ensures.longest in
    ap (λ n. c.args.start + n) few ∙ sym (valid_len-behind c.args.src.now c.args.start c.requires.within c.requires.whole)
