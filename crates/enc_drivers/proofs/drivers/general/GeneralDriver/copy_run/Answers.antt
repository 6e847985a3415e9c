use Rattle.std.proofs.Common.{◌<◌, arith}
use Rattle.std.proofs.lemmas.List.Elements.{All-from_get_or}
use Rattle.enc_drivers.specs.Units.{AreBytes}
use Rattle.enc_drivers.proofs.Spelled.{copied_scalars, reads_utf_16}
use Rattle.enc_drivers.proofs.Turns.{goes_nothing}
use Rattle.enc_drivers.proofs.drivers.general.GeneralDriver.copy_run.Goals as goal

pub returns-in-None : goal.returns-in-None
returns-in-None g c = λ last mode. goes_nothing _ _ last _ _ _

pub returns-in-Utf16Le : goal.returns-in-Utf16Le
returns-in-Utf16Le g c =
    let are : AreBytes c.args.src.now = All-from_get_or (λ b. b < 256) c.args.src.now 0 (λ i h. omega (arith, c.type_inv.src i)) in
    λ last mode. copied_scalars _ _ _ last mode _ _ _ _ (g.met.C.Code.laws c.args.self.now.code) (reads_utf_16 _ _ c.in-Utf16Le.ensures) are c.copy_utf16.ensures

pub returns-in-Utf16Be : goal.returns-in-Utf16Be
returns-in-Utf16Be g c =
    let are : AreBytes c.args.src.now = All-from_get_or (λ b. b < 256) c.args.src.now 0 (λ i h. omega (arith, c.type_inv.src i)) in
    λ last mode. copied_scalars _ _ _ last mode _ _ _ _ (g.met.C.Code.laws c.args.self.now.code) (reads_utf_16 _ _ c.in-Utf16Be.ensures) are c.copy_utf16-in-Utf16Be.ensures
