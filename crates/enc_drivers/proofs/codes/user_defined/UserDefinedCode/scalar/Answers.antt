use Rattle.std.proofs.Common.{sym, ap, ◌∙◌}
use Rattle.enc_drivers.specs.Units.{scalar_at}
use Rattle.enc_drivers.proofs.OneByte.{user_defined_front}
use Rattle.enc_drivers.proofs.codes.user_defined.UserDefinedCode.scalar.Goals as goal

pub returns : goal.returns
returns c = λ mode more are. user_defined_front mode c.args.bytes.now more c.requires ∙ ap (λ s. scalar_at mode s 1) (sym c.scalar_of.ensures)
