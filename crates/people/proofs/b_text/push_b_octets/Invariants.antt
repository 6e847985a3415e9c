use Rattle.std.proofs.Common.{◌≡◌, ◌++◌, [], drop}
use Rattle.people.specs.BText.{b_octets_behind}
use Rattle.people.specs.Groups.{values}
use Rattle.people.proofs.b_text.push_b_octets.Given as goal

abbrev pub invariant-loop-byte : goal.invariant-loop-byte
invariant-loop-byte l =
    l.octets.items ++ b_octets_behind (values l.group) (drop l.byte-index l.text) ≡ l.initial.octets.items ++ b_octets_behind [] l.text
