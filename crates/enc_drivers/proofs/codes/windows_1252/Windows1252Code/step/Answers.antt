use Rattle.std.proofs.Common.{sym, ap, ◌∙◌}
use Rattle.enc_drivers.specs.Units.{scalar_at}
use Rattle.enc_drivers.proofs.OneByte.{windows_1252_front}
use Rattle.enc_drivers.proofs.codes.windows_1252.Windows1252Code.step.Goals as goal

pub returns : goal.returns
returns c = λ more follows. windows_1252_front c.args.mode c.args.front.now more c.requires.some ∙ ap (λ s. scalar_at c.args.mode s 1) (sym c.scalar_of.ensures)
