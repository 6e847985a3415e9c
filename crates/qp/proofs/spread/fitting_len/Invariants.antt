use Rattle.std.proofs.Common.{◌≡◌, ℕ, List, ◌+◌, ◌<◌, ◌≤◌, length, take}
use Rattle.qp.specs.Blocks.{escapes_of, spread}
use Rattle.qp.proofs.spread.fitting_len.Given as goal

abbrev pub invariant-loop-most : goal.invariant-loop-most
invariant-loop-most l = record {
  few : l.most ≤ l.len;
  next : (text : List ℕ) → l.len ≤ length text → l.mask ≡ escapes_of text → l.most < l.len → l.left ≤ length (spread (take (l.most + 1) text));
}

abbrev pub decreases-loop-most : goal.decreases-loop-most
decreases-loop-most l = l.most
