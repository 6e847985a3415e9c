use Rattle.std.proofs.Common.{arith, ◌<◌}
use Rattle.std.proofs.lemmas.List.Elements.{All-from_get_or}
use Rattle.enc_io.proofs.PeekerLemmas.{next_front}
use Rattle.enc_io.proofs.peeker.BomPeeker.read_within.Goals as goal

pub returns-in-Ok-clause-next : goal.returns-in-Ok-clause-next
returns-in-Ok-clause-next g c =
    next_front _ _ _ _ _ _ _ c.in-Ok.ensures.within.0 c.in-Ok.ensures.next

pub returns-in-Ok-clause-are_bytes : goal.returns-in-Ok-clause-are_bytes
returns-in-Ok-clause-are_bytes g c = All-from_get_or (λ b. b < 256) _ 0 (λ i h. omega (arith, c.type_inv.buf i))

pub returns-in-Err-clause-are_bytes : goal.returns-in-Err-clause-are_bytes
returns-in-Err-clause-are_bytes g c = All-from_get_or (λ b. b < 256) _ 0 (λ i h. omega (arith, c.type_inv.buf i))

pub returns-then-waits-clause-are_bytes : goal.returns-then-waits-clause-are_bytes
returns-then-waits-clause-are_bytes g c = All-from_get_or (λ b. b < 256) _ 0 (λ i h. omega (arith, c.type_inv.buf i))

pub returns-then-self-clause-are_bytes : goal.returns-then-self-clause-are_bytes
returns-then-self-clause-are_bytes g c = All-from_get_or (λ b. b < 256) _ 0 (λ i h. omega (arith, c.type_inv.buf i))
