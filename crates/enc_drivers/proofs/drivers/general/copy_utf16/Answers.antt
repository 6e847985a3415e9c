use Rattle.std.proofs.Common.{◌-◌, ◌<◌, ap, arith}
use Rattle.std.proofs.lemmas.List.Elements.{All-from_get_or}
use Rattle.enc_drivers.specs.Units.{AreBytes}
use Rattle.enc_drivers.proofs.Spelled.{copies_utf_16, copies_utf_16_before}
use Rattle.enc_drivers.proofs.drivers.general.copy_utf16.Goals as goal

pub returns-in-None : goal.returns-in-None
returns-in-None g c =
    let are : AreBytes c.args.src.now = All-from_get_or (λ b. b < 256) c.args.src.now 0 (λ i h. omega (arith, c.type_inv.src i)) in
    copies_utf_16 _ _ _ _ _ _ _ _ g.met.S.UnitSlice.takes_what_fits are _ _ c.new-source.ensures (rw c.in-None.is at c.copy_utf16_from.ensures) c.consumed.ensures.place

pub returns-in-Some : goal.returns-in-Some
returns-in-Some g c =
    let are : AreBytes c.args.src.now = All-from_get_or (λ b. b < 256) c.args.src.now 0 (λ i h. omega (arith, c.type_inv.src i)) in
    copies_utf_16_before _ _ _ _ _ _ _ _ g.met.S.UnitSlice.takes_what_fits are _ _ _ c.new-source.ensures (rw c.in-Some.is at c.copy_utf16_from.ensures)
    (ap (λ k. k - 2) c.consumed-in-Some.ensures.place)
