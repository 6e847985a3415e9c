use Rattle.enc_strides.proofs.Utf8Lemmas.{lanes}
use Rattle.enc_strides.proofs.utf8.entries.Goals as goal

pub returns : goal.returns
returns c = lanes 8 c.args.units c.fits-units.0 c.fits-units.1
