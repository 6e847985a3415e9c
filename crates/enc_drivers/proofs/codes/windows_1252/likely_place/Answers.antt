use Rattle.enc_drivers.proofs.Windows1252Bytes.{likely_below}
use Rattle.enc_drivers.proofs.codes.windows_1252.likely_place.Goals as goal

pub returns-clause-within : goal.returns-clause-within
returns-clause-within c = likely_below c.args.code
