use Rattle.std.proofs.Common.{◌-◌, ◌*◌, false, length, arith}
use Rattle.enc_handles.proofs.CodeUnits.{length-window, block-is}
use Rattle.enc_handles.proofs.unaligned.UnalignedU16Slice.simd_at.Goals as goal

pub returns : goal.returns
returns c =
    let s = c.args.self.now in
    let count = length-window false s.bytes.now s.len s.fits in
    block-is s.bytes.now c.to_u16_lanes.result s.len c.args.i (length s.bytes.now - 2 * c.args.i) s.fits (omega (arith, c.requires, count)) (omega (arith, c.requires, count, s.fits)) c.to_u16_lanes.ensures
