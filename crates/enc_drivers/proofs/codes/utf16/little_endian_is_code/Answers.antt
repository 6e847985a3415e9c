use Rattle.std.proofs.Common.{false}
use Rattle.enc_drivers.specs.Lemmas.Utf16Law.{utf16_law}
use Rattle.enc_drivers.proofs.codes.utf16.little_endian_is_code.Goals as goal

pub returns : goal.returns
returns c = utf16_law false
