use Rattle.std.proofs.Common.{refl}
use Rattle.enc_io.proofs.PeekerLemmas.{given_front, slice_waits}
use Rattle.enc_io.proofs.peeker.BomPeeker.give_waiting.Goals as goal

pub returns-clause-given : goal.returns-clause-given
returns-clause-given g c =
    given_front _ _ _ _ _ _ c.give-count.ensures.given (slice_waits c.args.self.now.place c.args.self.now.bom.len c.args.self.now.bom.bytes c.args.self.now.place_within) refl
