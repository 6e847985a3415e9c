use Rattle.std.proofs.Common.{◌≡◌, length, ◌-◌, ◌≤◌}
use Rattle.enc_front.specs.Indexes.{indexes_of}
use Rattle.people.specs.Slices.{NoWordBefore}
use Rattle.people.specs.Word.{word_at}
use Rattle.people.proofs.pieces.first_word.Given as goal

abbrev pub invariant-loop-skipped : goal.invariant-loop-skipped
invariant-loop-skipped l = record {
  within : l.at ≤ length l.bytes;
  none_before : NoWordBefore (word_at (indexes_of l.tables)) l.bytes l.at;
  octets : l.octets.items ≡ l.initial.octets.items;
}

abbrev pub decreases-loop-skipped : goal.decreases-loop-skipped
decreases-loop-skipped l = length l.bytes - l.at
