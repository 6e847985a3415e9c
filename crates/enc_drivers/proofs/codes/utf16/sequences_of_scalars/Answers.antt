use Rattle.enc_drivers.proofs.Utf16RoundTrip.{utf16_round_trip}
use Rattle.enc_drivers.proofs.codes.utf16.sequences_of_scalars.Goals as goal

pub returns : goal.returns
returns c = utf16_round_trip
