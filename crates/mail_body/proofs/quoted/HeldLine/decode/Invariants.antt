use Rattle.std.proofs.Common.{◌+◌, ◌*◌, ◌≤◌, [], length, take}
use Rattle.mail_body.specs.Quoted.{DecodesQuoted}
use Rattle.mail_body.specs.HeldLine.{held_line}
use Rattle.mail_body.proofs.quoted.HeldLine.decode.Given as goal

abbrev pub invariant-loop-byte : goal.invariant-loop-byte
invariant-loop-byte l =
    record {
      decodes : DecodesQuoted (held_line l.initial.self) (take l.byte-index l.piece) (held_line l.self) [] (take l.filled l.out);
      room : l.filled + length (held_line l.self) ≤ length (held_line l.initial.self) + 2 * l.byte-index;
    }
