use Rattle.std.proofs.Common.{◌≡◌, ◌≤◌, ◌-◌, length}
use Rattle.std.specs.Char.Escape.{encode_utf16}
use Rattle.enc_handles.specs.Copies.{MovesFrom}
use Rattle.enc_handles.specs.Unaligned.{units_in}
use Rattle.enc_handles.proofs.blocks.move_utf16.Given as goal

abbrev pub invariant-loop-read : goal.invariant-loop-read
invariant-loop-read g l =
    let window = units_in g.E.Endian.OPPOSITE_ENDIAN l.units in
    (l.from ≤ l.read) × (l.read ≤ length window) × (length l.dst ≡ length l.fn.dst) × MovesFrom encode_utf16 0 window l.fn.dst l.dst l.at l.from (l.read - l.from, l.end)

abbrev pub decreases-loop-read : goal.decreases-loop-read
decreases-loop-read g l = length (units_in g.E.Endian.OPPOSITE_ENDIAN l.units) - l.read
