use Rattle.enc_drivers.specs.Lemmas.Big5Law.{big5_ascii}
use Rattle.enc_drivers.proofs.codes.big5.Big5Code.bulk.Goals as goal

pub returns : goal.returns
returns g c = big5_ascii (g.L.Lookup.places c.args.self.now.index.now)
