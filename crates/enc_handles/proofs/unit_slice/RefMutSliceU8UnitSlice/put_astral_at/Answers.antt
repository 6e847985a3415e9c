use Rattle.std.proofs.Common.{arith}
use Rattle.enc_handles.proofs.TextLemmas.{length-encode_four}
use Rattle.enc_handles.proofs.unit_slice.RefMutSliceU8UnitSlice.put_astral_at.Goals as goal

pub put_four-requires-clause-room : goal.put_four-requires-clause-room
put_four-requires-clause-room c = omega (arith, length-encode_four c.args.astral c.requires.above)

pub returns-clause-end : goal.returns-clause-end
returns-clause-end c = omega (arith, length-encode_four c.args.astral c.requires.above)
