use Rattle.enc_front.proofs.MarkLemmas.{own_utf_8, own_utf_16be, own_utf_16le, own_none}
use Rattle.enc_front.proofs.mark.first_of_own.Goals as goal

pub returns-in-Utf8 : goal.returns-in-Utf8
returns-in-Utf8 c = rw (c.in-Utf8.is, c.first_is.ensures) (own_utf_8 c.args.byte)

pub returns-in-Utf16Be : goal.returns-in-Utf16Be
returns-in-Utf16Be c = rw (c.in-Utf16Be.is, c.first_is-in-Utf16Be.ensures)
    (own_utf_16be c.args.byte)

pub returns-in-Utf16Le : goal.returns-in-Utf16Le
returns-in-Utf16Le c = rw (c.in-Utf16Le.is, c.first_is-in-Utf16Le.ensures)
    (own_utf_16le c.args.byte)

pub returns-in_default : goal.returns-in_default
returns-in_default c =
    own_none c.args.encoding c.args.byte c.in_default.not-Utf8 c.in_default.not-Utf16Be
    c.in_default.not-Utf16Le
