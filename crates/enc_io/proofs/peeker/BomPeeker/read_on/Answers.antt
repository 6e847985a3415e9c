use Rattle.std.proofs.Common.{arith, refl, ◌<◌, length-take-le}
use Rattle.std.proofs.lemmas.List.Elements.{All-from_get_or, All-take}
use Rattle.enc_io.proofs.PeekerLemmas.{next_read, next_none, kept_nothing}
use Rattle.enc_io.proofs.peeker.BomPeeker.read_on.Goals as goal

pub returns-in-Ok-clause-next : goal.returns-in-Ok-clause-next
returns-in-Ok-clause-next g c =
    next_read _ _ _ _ _ _ c.requires.none_waits c.requires.none_waits refl refl c.requires.not_ended
    (All-take (λ x. x < 256) _ _ (All-from_get_or (λ b. b < 256) _ 0 (λ i h. omega (arith, c.type_inv.buf i))))
    (length-take-le c.in-Ok.count c.read.new.buf c.in-Ok.ensures.within.0)
    c.in-Ok.ensures.moved.0

pub returns-in-Err-clause-next : goal.returns-in-Err-clause-next
returns-in-Err-clause-next g c =
    next_none _ _ _ _ c.requires.none_waits c.requires.none_waits refl refl c.requires.not_ended (kept_nothing _ _ c.in-Err.ensures.moved)
