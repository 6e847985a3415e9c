use Rattle.std.proofs.Common.{arith}
use Rattle.enc_drivers.proofs.FoundPlaces.{found_below}
use Rattle.enc_drivers.proofs.codes.single_byte.SingleByteEncodeCode.bytes_of.Goals as goal

pub overflow_cast-place : goal.overflow_cast-place
overflow_cast-place g c = let below = found_below _ _ _ _ c.in_ok-place.ensures in grind arith

pub overflow_add-place : goal.overflow_add-place
overflow_add-place g c = let below = found_below _ _ _ _ c.in_ok-place.ensures in grind arith
