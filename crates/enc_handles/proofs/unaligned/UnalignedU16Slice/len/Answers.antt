use Rattle.std.proofs.Common.{sym}
use Rattle.enc_handles.proofs.CodeUnits.{length-window}
use Rattle.enc_handles.proofs.unaligned.UnalignedU16Slice.len.Goals as goal

pub returns : goal.returns
returns c = λ big. sym (length-window big c.args.self.now.bytes.now c.args.self.now.len c.args.self.now.fits)
