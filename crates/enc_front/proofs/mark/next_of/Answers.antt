use Rattle.std.proofs.Common.{sym, ◌∙◌, ap}
use Rattle.enc_front.specs.Start.{next_byte}
use Rattle.enc_front.proofs.MarkLemmas.{next_other, next_utf_8, next_utf_16be, next_utf_16le}
use Rattle.enc_front.proofs.mark.next_of.Goals as goal

pub returns-then-byte-next_byte : goal.returns-then-byte-next_byte
returns-then-byte-next_byte c = next_other c.args.part c.args.encoding c.args.byte
    (λ e. c.if-byte-next_byte.true (sym e ∙ sym c.next_byte.ensures))

pub returns-in-EfBb : goal.returns-in-EfBb
returns-in-EfBb c = rw c.in-EfBb.is
    (next_utf_8 c.args.encoding c.args.byte (c.if-byte-next_byte.false
    ∙ (c.next_byte.ensures ∙ ap next_byte c.in-EfBb.is)))

pub returns-in-Fe : goal.returns-in-Fe
returns-in-Fe c = rw c.in-Fe.is
    (next_utf_16be c.args.encoding c.args.byte (c.if-byte-next_byte.false
    ∙ (c.next_byte.ensures ∙ ap next_byte c.in-Fe.is)))

pub returns-in-Ff : goal.returns-in-Ff
returns-in-Ff c = rw c.in-Ff.is
    (next_utf_16le c.args.encoding c.args.byte (c.if-byte-next_byte.false
    ∙ (c.next_byte.ensures ∙ ap next_byte c.in-Ff.is)))
