use Rattle.std.proofs.Common.{◌≡◌, ◌+◌, ◌≤◌, ◌*◌, length, take, flat_map}
use Rattle.enc_strides.specs.Utf8.{entry_text, Appended}
use Rattle.enc_strides.proofs.utf8.append_entries.Given as goal

abbrev pub invariant-loop-i : goal.invariant-loop-i
invariant-loop-i l = (l.to ≤ l.at + 3 * l.i) × Appended l.fn.dst l.dst l.at l.to (flat_map entry_text (take l.i l.entries)) × (length l.dst ≡ length l.fn.dst)
