use Rattle.enc_drivers.proofs.OneByte.{user_defined_ascii}
use Rattle.enc_drivers.proofs.codes.user_defined.UserDefinedCode.bulk.Goals as goal

pub returns : goal.returns
returns c = user_defined_ascii
