use Rattle.std.proofs.Common.{◌<◌, take, arith}
use Rattle.std.proofs.lemmas.List.Elements.{All-from_get_or, All-take}
use Rattle.enc_drivers.specs.Units.{AreBytes}
use Rattle.enc_drivers.proofs.OneByte.{block_reads}
use Rattle.enc_drivers.proofs.codes.single_byte.SingleByteCode.block.Goals as goal

pub returns : goal.returns
returns g c =
    let bytes = c.args.bytes.now in
    let are : AreBytes bytes = All-from_get_or (λ b. b < 256) bytes 0 (λ i h. omega (arith, c.type_inv.bytes i)) in
    block_reads (g.L.Lookup.places c.args.self.now.index.now) c.in_ok-entries.entries.now (take 8 bytes) c.block_of.result c.in_ok-entries.ensures (All-take (λ b. b < 256) 8 bytes are) c.block_of.ensures
