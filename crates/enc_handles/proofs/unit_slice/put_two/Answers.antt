use Rattle.enc_handles.proofs.TextLemmas.{encode_two, Puts-append}
use Rattle.enc_handles.proofs.unit_slice.put_two.Goals as goal

pub returns-clause-text : goal.returns-clause-text
returns-clause-text c =
    rw (encode_two c.args.code c.requires.low c.requires.high)
    (Puts-append _ _ _ _ _ _ _ c.put_byte-at.ensures.text c.put_byte-at.ensures.end c.put_byte.ensures.text)
