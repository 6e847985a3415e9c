use Rattle.std.proofs.Common.{◌≡◌, ℕ, ◌<◌, true, get_or}
use Rattle.header_block.specs.Fields.{is_wsp}
use Rattle.header_block.proofs.field_parts.wsp_len.Given as goal

abbrev pub invariant-loop-i : goal.invariant-loop-i
invariant-loop-i l = (k : ℕ) → k < l.i → is_wsp (get_or l.text k 0) ≡ true
