use Rattle.enc_drivers.proofs.MultiBytePlaces.{iso_2022_jp_read_back, iso_2022_jp_state}
use Rattle.enc_drivers.proofs.codes.iso_2022_jp.places_have_bytes.Goals as goal

pub returns-clause-read_back : goal.returns-clause-read_back
returns-clause-read_back c = iso_2022_jp_read_back

pub returns-clause-next : goal.returns-clause-next
returns-clause-next c = iso_2022_jp_state
