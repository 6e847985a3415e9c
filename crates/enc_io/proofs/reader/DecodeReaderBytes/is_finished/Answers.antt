use Rattle.std.proofs.Common.{ap, sym, ◌∙◌}
use Rattle.std.specs.Option.{option_map}
use Rattle.enc_front.specs.DecoderView as decoder
use Rattle.enc_io.proofs.PieceLemmas.{finished_still}
use Rattle.enc_io.proofs.reader.DecodeReaderBytes.is_finished.Goals as goal

pub returns-in-Some-clause-nothing : goal.returns-in-Some-clause-nothing
returns-in-Some-clause-nothing g c = λ done none.
    finished_still _ _ c.requires.detected (ap (option_map decoder.standing_of) c.in-Some.is) (sym c.is_finished.ensures ∙ done) none
