use Rattle.enc_drivers.proofs.MultiBytePlaces.{euc_jp_read_back, euc_jp_read_back_of_three}
use Rattle.enc_drivers.proofs.codes.euc_jp.places_have_bytes.Goals as goal

pub returns-clause-read_back : goal.returns-clause-read_back
returns-clause-read_back c = euc_jp_read_back

pub returns-clause-read_back_of_three : goal.returns-clause-read_back_of_three
returns-clause-read_back_of_three c = euc_jp_read_back_of_three
