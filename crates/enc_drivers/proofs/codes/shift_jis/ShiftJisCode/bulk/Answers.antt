use Rattle.enc_drivers.specs.Lemmas.ShiftJisLaw.{shift_jis_ascii}
use Rattle.enc_drivers.proofs.codes.shift_jis.ShiftJisCode.bulk.Goals as goal

pub returns : goal.returns
returns g c = shift_jis_ascii (g.L.Lookup.places c.args.self.now.jis0208.now)
