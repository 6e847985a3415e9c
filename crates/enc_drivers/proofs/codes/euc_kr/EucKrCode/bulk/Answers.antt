use Rattle.enc_drivers.specs.Lemmas.EucKrLaw.{euc_kr_ascii}
use Rattle.enc_drivers.proofs.codes.euc_kr.EucKrCode.bulk.Goals as goal

pub returns : goal.returns
returns g c = euc_kr_ascii (g.L.Lookup.places c.args.self.now.index.now)
