use Rattle.std.proofs.Common.{◌≡◌, ℕ, ◌<◌, ◌≤◌, true, get_or, length}
use Rattle.header_block.specs.Fields.{is_wsp}
use Rattle.header_block.proofs.field_parts.len_without_wsp.Given as goal

abbrev pub invariant-loop-len : goal.invariant-loop-len
invariant-loop-len l =
    record {
      within : l.len ≤ length l.text;
      behind : (k : ℕ) → l.len ≤ k → k < length l.text → is_wsp (get_or l.text k 0) ≡ true;
    }

abbrev pub decreases-loop-len : goal.decreases-loop-len
decreases-loop-len l = l.len
