use Rattle.enc_drivers.proofs.PairPlaces.{shift_jis_read_back, shift_jis_unique}
use Rattle.enc_drivers.proofs.codes.shift_jis.places_have_bytes.Goals as goal

pub returns-clause-read_back : goal.returns-clause-read_back
returns-clause-read_back c = shift_jis_read_back

pub returns-clause-unique : goal.returns-clause-unique
returns-clause-unique c = shift_jis_unique
