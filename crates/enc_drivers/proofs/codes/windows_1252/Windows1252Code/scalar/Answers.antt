use Rattle.std.proofs.Common.{sym, ap, ◌∙◌}
use Rattle.enc_drivers.specs.Units.{scalar_at}
use Rattle.enc_drivers.proofs.OneByte.{windows_1252_front}
use Rattle.enc_drivers.proofs.codes.windows_1252.Windows1252Code.scalar.Goals as goal

pub returns : goal.returns
returns c = λ mode more are. windows_1252_front mode c.args.bytes.now more c.requires ∙ ap (λ s. scalar_at mode s 1) (sym c.scalar_of.ensures)
