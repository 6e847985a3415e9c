use Rattle.enc_drivers.proofs.Utf8Malformed.{malformed_law}
use Rattle.enc_drivers.proofs.codes.utf8.malformed_units.Goals as goal

pub returns : goal.returns
returns c = malformed_law
