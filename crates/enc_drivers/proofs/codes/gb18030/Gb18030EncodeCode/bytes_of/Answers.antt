use Rattle.enc_drivers.proofs.FoundPlaces.{found_below}
use Rattle.enc_drivers.proofs.codes.gb18030.Gb18030EncodeCode.bytes_of.Goals as goal

pub two_bytes-requires : goal.two_bytes-requires
two_bytes-requires g c = found_below _ _ _ _ c.in-Some.ensures

pub four_bytes-requires : goal.four_bytes-requires
four_bytes-requires g c = found_below _ _ _ _ c.in_ok-place.ensures
