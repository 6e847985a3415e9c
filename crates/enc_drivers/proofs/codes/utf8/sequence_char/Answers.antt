use Rattle.enc_drivers.proofs.Utf8Steps.{some_scalar}
use Rattle.enc_drivers.proofs.codes.utf8.sequence_char.Goals as goal

pub unwrap-requires : goal.unwrap-requires
unwrap-requires c = some_scalar c.from_u32.result c.sequence_scalar.result c.from_u32.ensures.value c.sequence_scalar.ensures.scalar
