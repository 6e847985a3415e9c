use Rattle.std.proofs.Common.{sym}
use Rattle.enc_front.proofs.MarkLemmas.{any_other}
use Rattle.enc_front.proofs.mark.first_of_any.Goals as goal

pub returns-else-byte-eq255 : goal.returns-else-byte-eq255
returns-else-byte-eq255 c =
    any_other c.args.encoding c.args.byte (λ e. c.if-byte-eq239.false (sym e))
    (λ e. c.if-byte-eq254.false (sym e)) (λ e. c.if-byte-eq255.false (sym e))
