use Rattle.std.proofs.Common.{◌≡◌, ◌+◌, ◌≤◌, length}
use Rattle.enc_front.specs.IndexFile.{before_pairs, index_pairs, lines_of, pairs_of_lines}
use Rattle.enc_front.proofs.index_file.read_index.Given as goal

abbrev pub invariant-loop-rest : goal.invariant-loop-rest
invariant-loop-rest l = record {
  whole : before_pairs l.pairs.items (pairs_of_lines l.number (lines_of l.rest))
      ≡ index_pairs l.text;
  count : l.number + length l.rest ≤ length l.text + 1;
}

abbrev pub decreases-loop-rest : goal.decreases-loop-rest
decreases-loop-rest l = length l.rest
