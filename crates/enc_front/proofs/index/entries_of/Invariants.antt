use Rattle.std.proofs.Common.{◌≡◌, take}
use Rattle.enc_front.specs.Cells.{cell_entries}
use Rattle.enc_front.proofs.index.entries_of.Given as goal

abbrev pub invariant-loop-cell : goal.invariant-loop-cell
invariant-loop-cell l = l.entries.items ≡ cell_entries (take l.cell-index l.cells)
