use Rattle.std.proofs.Common.{◌≡◌, true, false, arith}
use Rattle.enc_handles.proofs.CodeUnits.{length-window, window-big, window-little}
use Rattle.enc_handles.proofs.unaligned.UnalignedU16Slice.unit.Goals as goal

pub returns-then-OPPOSITE_ENDIAN : goal.returns-then-OPPOSITE_ENDIAN
returns-then-OPPOSITE_ENDIAN g c =
    let s = c.args.self.now in
    let big = g.E.Endian.OPPOSITE_ENDIAN in
    let is : big ≡ true = cc in
    omega (arith, window-big big s.bytes.now s.len c.args.i is s.fits (omega (arith, c.requires, length-window big s.bytes.now s.len s.fits)))

pub returns-else-OPPOSITE_ENDIAN : goal.returns-else-OPPOSITE_ENDIAN
returns-else-OPPOSITE_ENDIAN g c =
    let s = c.args.self.now in
    let big = g.E.Endian.OPPOSITE_ENDIAN in
    let is : big ≡ false = cc in
    omega (arith, window-little big s.bytes.now s.len c.args.i is s.fits (omega (arith, c.requires, length-window big s.bytes.now s.len s.fits)))
