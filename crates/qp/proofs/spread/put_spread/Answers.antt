use Rattle.std.proofs.Common.{◌≡◌, ℕ, List, ◌+◌, ◌≤◌, ◌++◌, length, take, drop, map, ap, ap₂, ◌∙◌, arith}
use Rattle.std.proofs.lemmas.List.{length-take-le}
use Rattle.qp.specs.Blocks.{spread, group_of}
use Rattle.qp.proofs.BlockLemmas.{length_drop}
use Rattle.qp.proofs.SpreadLemmas.{sets, part, parts_sum, parts_written, high_of, low_of}
use Rattle.qp.proofs.spread.put_spread.Goals as goal

pub returns-clause-written : goal.returns-clause-written
returns-clause-written c =
    let v : List ℕ = take 16 c.args.text.now in
    let long : length v ≡ 16 = length-take-le 16 c.args.text.now c.requires.text in
    let told = sets v long c.args.mask c.requires.mask in
    let digits : (k : ℕ) → group_of k v c.high_digits-high.result c.low_digits-low.result ≡ group_of k v (map high_of v) (map low_of v) =
    λ k. ap₂ (group_of k v) c.high_digits-high.ensures c.low_digits-low.ensures in
    let zeroth = c.put_four-first.ensures.written 0 v (omega (arith, long)) told.0 (c.first_group.ensures ∙ digits 0) in
    let first = c.put_four-second.ensures.written 4 v (omega (arith, long)) told.1 (c.second_group.ensures ∙ digits 4) in
    let second = c.put_four-third.ensures.written 8 v (omega (arith, long)) told.2 (c.third_group.ensures ∙ digits 8) in
    let third = c.put_four.ensures.written 12 v (omega (arith, long)) told.3 (c.last_group.ensures ∙ digits 12) in
    let ends : (k : ℕ) → k + 4 ≤ 16 → length (take 4 (drop k v)) ≡ 4 = λ k inside. length-take-le 4 (drop k v) (omega (arith, inside, long, length_drop k v (omega (arith, inside, long)))) in
    let place : c.args.at + length (spread v) ≡ c.put_four.result =
    omega (arith, parts_sum v long, c.put_four-first.ensures.end _ told.0 (ends 0 (omega arith)), c.put_four-second.ensures.end _ told.1 (ends 4 (omega arith)), c.put_four-third.ensures.end _ told.2 (ends 8 (omega arith)), c.put_four.ensures.end _ told.3 (ends 12 (omega arith))) in
    ap (λ n. take n c.put_four.new.room) place
    ∙ third
    ∙ ap (λ o. o ++ part v long 12) (second ∙ ap (λ o. o ++ part v long 8) (first ∙ ap (λ o. o ++ part v long 4) zeroth))
    ∙ parts_written v long (take c.args.at c.args.room.now)
