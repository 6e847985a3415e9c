use Rattle.enc_drivers.proofs.PairPlaces.{big5_read_back, big5_unique}
use Rattle.enc_drivers.proofs.codes.big5.places_have_bytes.Goals as goal

pub returns-clause-read_back : goal.returns-clause-read_back
returns-clause-read_back c = big5_read_back

pub returns-clause-unique : goal.returns-clause-unique
returns-clause-unique c = big5_unique
