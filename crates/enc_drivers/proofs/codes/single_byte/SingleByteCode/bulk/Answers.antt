use Rattle.enc_drivers.proofs.OneByte.{single_byte_ascii}
use Rattle.enc_drivers.proofs.codes.single_byte.SingleByteCode.bulk.Goals as goal

pub returns : goal.returns
returns g c = single_byte_ascii (g.L.Lookup.places c.args.self.now.index.now)
