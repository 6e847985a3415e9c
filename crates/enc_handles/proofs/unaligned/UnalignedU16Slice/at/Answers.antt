use Rattle.std.proofs.Common.{false, arith}
use Rattle.enc_handles.proofs.CodeUnits.{length-window, window-at}
use Rattle.enc_handles.proofs.unaligned.UnalignedU16Slice.at.Goals as goal

pub returns : goal.returns
returns c =
    let s = c.args.self.now in
    let here = window-at false s.bytes.now s.len c.args.i s.fits (omega (arith, c.requires, length-window false s.bytes.now s.len s.fits)) in
    omega (arith, here)
