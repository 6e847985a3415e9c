use Rattle.std.proofs.Common.{refl}
use Rattle.enc_io.proofs.PeekerLemmas.{given_front, slice_waits}
use Rattle.enc_io.proofs.tiny.TinyTranscoder.read.Goals as goal

pub returns-clause-given : goal.returns-clause-given
returns-clause-given c =
    given_front _ _ _ _ _ _ c.give-count.ensures.given (slice_waits c.args.self.now.pos c.args.self.now.len c.args.self.now.partial c.args.self.now.place_within) refl
