-- What a decoder of quoted-printable text shows.
use Rattle.std.specs.Prelude.{ℕ, List}
use Rattle.mail_body.specs.declared.quoted.HeldLine.{HeldLine}
use Rattle.mail_body.specs.Quoted.{held_bytes}

-- the bytes that it keeps
abbrev pub held_line : HeldLine → List ℕ
held_line line = held_bytes line.begun line.count line.blanks.items
