use Rattle.std.proofs.Common.{◌≡◌, ◌++◌, ◌+◌, ◌-◌, ◌≤◌, take, drop}
use Rattle.people.proofs.word.remove_at.Given as goal

abbrev pub invariant-loop-left : goal.invariant-loop-left
invariant-loop-left l = record {
  within : l.left ≤ l.count;
  items : l.octets.items ≡ take l.at l.initial.octets.items ++ drop (l.at + (l.count - l.left)) l.initial.octets.items;
}

abbrev pub decreases-loop-left : goal.decreases-loop-left
decreases-loop-left l = l.left
