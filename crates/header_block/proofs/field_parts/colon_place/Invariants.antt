use Rattle.std.proofs.Common.{◌≡◌, ℕ, ◌<◌, false, get_or}
use Rattle.header_block.specs.Parts.{is_colon}
use Rattle.header_block.proofs.field_parts.colon_place.Given as goal

abbrev pub invariant-loop-i : goal.invariant-loop-i
invariant-loop-i l = (k : ℕ) → k < l.i → is_colon (get_or l.field k 0) ≡ false
