use Rattle.enc_drivers.proofs.PairPlaces.{euc_kr_read_back, euc_kr_unique}
use Rattle.enc_drivers.proofs.codes.euc_kr.places_have_bytes.Goals as goal

pub returns-clause-read_back : goal.returns-clause-read_back
returns-clause-read_back c = euc_kr_read_back

pub returns-clause-unique : goal.returns-clause-unique
returns-clause-unique c = euc_kr_unique
