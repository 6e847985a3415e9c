use Rattle.std.proofs.Common.{◌≡◌, ◌<◌, ℕ, length, get_or}
use Rattle.enc_front.specs.Cells.{byte_entry}
use Rattle.enc_front.proofs.index.Cells.byte_entries.Given as goal

abbrev pub invariant-loop-byte : goal.invariant-loop-byte
invariant-loop-byte l =
    (length l.entries ≡ 256) × ((other : ℕ) → other < l.byte → get_or l.entries other 0 ≡ byte_entry l.self.cells.items other)
