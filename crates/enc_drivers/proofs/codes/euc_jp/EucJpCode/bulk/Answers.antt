use Rattle.enc_drivers.specs.Lemmas.EucJpLaw.{euc_jp_ascii}
use Rattle.enc_drivers.proofs.codes.euc_jp.EucJpCode.bulk.Goals as goal

pub returns : goal.returns
returns g c = euc_jp_ascii (g.L.Lookup.places c.args.self.now.jis0208.now) (g.L.Lookup.places c.args.self.now.jis0212.now)
