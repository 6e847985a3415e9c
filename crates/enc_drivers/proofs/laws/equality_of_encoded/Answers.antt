use Rattle.enc_drivers.proofs.EncodedEquality.{padded_equal}
use Rattle.enc_drivers.proofs.laws.equality_of_encoded.Goals as goal

pub returns : goal.returns
returns c = padded_equal
