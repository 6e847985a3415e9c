use Rattle.enc_drivers.proofs.Utf8RoundTrip.{utf8_round_trip}
use Rattle.enc_drivers.proofs.codes.utf8.sequences_of_scalars.Goals as goal

pub returns : goal.returns
returns c = utf8_round_trip
