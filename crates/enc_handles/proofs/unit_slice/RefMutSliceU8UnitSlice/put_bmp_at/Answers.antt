use Rattle.std.proofs.Common.{arith}
use Rattle.enc_handles.proofs.TextLemmas.{length-encode_two, length-encode_three}
use Rattle.enc_handles.proofs.unit_slice.RefMutSliceU8UnitSlice.put_bmp_at.Goals as goal

pub put_two-requires-clause-room : goal.put_two-requires-clause-room
put_two-requires-clause-room c = omega (arith, length-encode_two c.args.bmp (omega arith) (omega arith))

pub put_three-requires-clause-room : goal.put_three-requires-clause-room
put_three-requires-clause-room c = omega (arith, length-encode_three c.args.bmp (omega arith) (omega arith))

pub returns-then-code-lt2048-clause-end : goal.returns-then-code-lt2048-clause-end
returns-then-code-lt2048-clause-end c = omega (arith, length-encode_two c.args.bmp (omega arith) (omega arith))

pub returns-else-code-lt2048-clause-end : goal.returns-else-code-lt2048-clause-end
returns-else-code-lt2048-clause-end c = omega (arith, length-encode_three c.args.bmp (omega arith) (omega arith))
