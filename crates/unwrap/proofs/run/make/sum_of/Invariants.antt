use Rattle.std.proofs.Common.{◌≡◌, ◌≤◌, ◌*◌, take, sum}
use Rattle.unwrap.proofs.run.make.sum_of.Given as goal

abbrev pub invariant-loop-byte : goal.invariant-loop-byte
invariant-loop-byte l =
    record {
      total : l.sum ≡ sum (take l.byte-index l.bytes);
      small : l.sum ≤ 255 * l.byte-index;
    }
