use Rattle.std.proofs.Common.{◌≡◌, ◌++◌, [], List, ℕ, drop, sym, ap, ◌∙◌, subst, arith}
use Rattle.std.specs.Prelude.{OnOk}
use Rattle.std.proofs.lemmas.List.{nil_from_length, length-drop}
use Rattle.people.specs.BText.{group_octets, b_octets_behind}
use Rattle.people.specs.Groups.{values}
use Rattle.people.proofs.BLemmas.{at-end}
use Rattle.people.proofs.b_text.push_b_octets.Goals as goal

pub returns : goal.returns
returns c =
    let s : List ℕ = c.args.text.now in
    let g : List ℕ = values c.loop-byte.group in
    let past : drop c.loop-byte.byte-index s ≡ [] = nil_from_length (drop c.loop-byte.byte-index s) (omega (arith, length-drop c.loop-byte.byte-index s)) in
    let end : group_octets g ≡ b_octets_behind g (drop c.loop-byte.byte-index s) = sym (ap (b_octets_behind g) past ∙ at-end g) in
    subst (λ (z : List ℕ). OnOk c.push_group.result (c.push_group.new.octets.items ≡ z)) (ap (λ z. c.loop-byte.octets.items ++ z) end ∙ c.loop-byte.invariant) c.push_group.ensures
