-- What a transfer decoder keeps.
use Rattle.std.specs.Prelude.{[], false}
use Rattle.mail_body.specs.declared.transfer.Transfer.TheVariants as kind
use Rattle.mail_body.specs.declared.transfer.TransferDecoder.{TransferDecoder}
use Rattle.mail_body.specs.declared.transfer.TransferDecoder.TheVariants.{Plain, Quoted, Base64}
use Rattle.mail_body.specs.Transfer.{Carry}
use Rattle.mail_body.specs.HeldLetters.{held_letters, is_ended}
use Rattle.mail_body.specs.HeldLine.{held_line}

abbrev pub carry_of : TransferDecoder → Carry
carry_of Plain = record { kind = kind.Plain; kept = []; closed = false }
carry_of (Quoted line) = record { kind = kind.Quoted; kept = held_line line; closed = false }
carry_of (Base64 held) =
    record { kind = kind.Base64; kept = held_letters held; closed = is_ended held }
