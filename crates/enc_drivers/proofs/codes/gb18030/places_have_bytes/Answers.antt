use Rattle.enc_drivers.proofs.MultiBytePlaces.{gb18030_read_back, gb18030_read_back_of_four}
use Rattle.enc_drivers.proofs.codes.gb18030.places_have_bytes.Goals as goal

pub returns-clause-read_back : goal.returns-clause-read_back
returns-clause-read_back c = gb18030_read_back

pub returns-clause-read_back_of_four : goal.returns-clause-read_back_of_four
returns-clause-read_back_of_four c = gb18030_read_back_of_four
