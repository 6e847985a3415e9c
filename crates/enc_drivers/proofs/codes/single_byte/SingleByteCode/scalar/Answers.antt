use Rattle.enc_drivers.proofs.OneByte.{single_byte_scalar}
use Rattle.enc_drivers.proofs.codes.single_byte.SingleByteCode.scalar.Goals as goal

pub returns : goal.returns
returns g c = single_byte_scalar (g.L.Lookup.places c.args.self.now.index.now) c.args.bytes.now c.scalar_of.result c.item_of.result c.requires c.item_of.ensures c.scalar_of.ensures
