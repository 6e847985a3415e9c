use Rattle.std.proofs.Common.{arith}
use Rattle.enc_handles.proofs.TextLemmas.{encode_four, Puts-append}
use Rattle.enc_handles.proofs.unit_slice.put_four.Goals as goal

pub returns-clause-text : goal.returns-clause-text
returns-clause-text c =
    rw (encode_four c.args.code c.requires.low)
    (Puts-append _ _ _ _ _ _ _
    (Puts-append _ _ _ _ _ _ _
    (Puts-append _ _ _ _ _ _ _ c.put_byte-at.ensures.text c.put_byte-at.ensures.end c.put_byte-at-2.ensures.text)
    (omega arith) c.put_byte-at-3.ensures.text)
    (omega arith) c.put_byte.ensures.text)
