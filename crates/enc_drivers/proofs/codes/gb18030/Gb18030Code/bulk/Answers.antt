use Rattle.enc_drivers.specs.Lemmas.Gb18030Law.{gb18030_ascii}
use Rattle.enc_drivers.proofs.codes.gb18030.Gb18030Code.bulk.Goals as goal

pub returns : goal.returns
returns g c = gb18030_ascii (g.L.Lookup.places c.args.self.now.index.now) (g.R.Lookup.places c.args.self.now.ranges.now)
