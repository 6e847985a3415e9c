use Rattle.std.proofs.Common.{◌<◌, arith}
use Rattle.std.proofs.lemmas.List.Elements.{All-from_get_or}
use Rattle.enc_drivers.specs.Units.{AreBytes}
use Rattle.enc_drivers.proofs.Spelled.{copied_scalars, reads_utf_8}
use Rattle.enc_drivers.proofs.drivers.general.GeneralDriver.copy_sequences.Goals as goal

pub returns : goal.returns
returns g c =
    let are : AreBytes c.args.src.now = All-from_get_or (λ b. b < 256) c.args.src.now 0 (λ i h. omega (arith, c.type_inv.src i)) in
    λ last mode. copied_scalars _ _ _ last mode _ _ _ _ (g.met.C.Code.laws c.args.self.now.code) (reads_utf_8 _ c.requires) are c.copy_utf8.ensures
