use Rattle.std.proofs.Common.{sym, ap, ◌∙◌}
use Rattle.enc_drivers.specs.declared.unit.Item.{Item}
use Rattle.enc_drivers.proofs.OneByte.{single_byte_front}
use Rattle.enc_drivers.proofs.codes.single_byte.SingleByteCode.step.Goals as goal

pub returns : goal.returns
returns g c = λ more follows. single_byte_front (g.L.Lookup.places c.args.self.now.index.now) c.args.mode c.args.front.now more c.requires.some ∙ ap (λ (i : Item). record { item = i; len = 1; next = c.args.mode }) (sym c.item_of.ensures)
