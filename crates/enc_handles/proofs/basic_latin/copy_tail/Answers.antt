use Rattle.std.proofs.Common.{arith}
use Rattle.enc_strides.proofs.RunLemmas.{copied_byte}
use Rattle.enc_handles.proofs.basic_latin.copy_tail.Goals as goal

pub loop-at-preserved : goal.loop-at-preserved
loop-at-preserved c = copied_byte _ _ _ c.loop-at.invariant (omega arith) (omega arith) (omega arith)
