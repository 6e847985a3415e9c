use Rattle.std.proofs.Common.{◌+◌, ◌-◌, ◌*◌, ◌≤◌, length}
use Rattle.mail_body.specs.HeldLetters.{Goes, held_letters}
use Rattle.mail_body.proofs.letters.decode_piece.Given as goal

abbrev pub invariant-bytes : goal.invariant-bytes
invariant-bytes l =
    record {
      within : l.at ≤ length l.piece;
      room : 4 * l.filled + 3 * length (held_letters l.held) ≤ 4 * l.from + 3 * l.at + 9;
      count : 4 * l.filled + 3 * length (held_letters l.held) ≤ 4 * l.from + 3 * (length (held_letters l.fn.start) + l.at);
      goes : Goes l.piece l.fn.start 0 l.fn.out l.from l.held l.at l.out l.filled;
    }

abbrev pub decreases-bytes : goal.decreases-bytes
decreases-bytes l = length l.piece - l.at
