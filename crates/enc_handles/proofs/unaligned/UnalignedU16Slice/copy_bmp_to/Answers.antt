use Rattle.std.proofs.Common.{◌≡◌, ◌<◌, true, length, arith}
use Rattle.enc_handles.specs.Unaligned.{units_in}
use Rattle.enc_handles.specs.Utf16.{is_surrogate}
use Rattle.enc_handles.proofs.CodeUnits.{bmp_len-here}
use Rattle.enc_handles.proofs.unaligned.UnalignedU16Slice.copy_bmp_to.Goals as goal

pub returns-then-is_surrogate-clause-surrogate : goal.returns-then-is_surrogate-clause-surrogate
returns-then-is_surrogate-clause-surrogate g c =
    let units = units_in g.E.Endian.OPPOSITE_ENDIAN c.args.self.now in
    let within : c.loop-i.i < length units = omega (arith, c.len-count.ensures g.E.Endian.OPPOSITE_ENDIAN) in
    let met : is_surrogate c.unit-unit.result ≡ true = cc in
    rw (bmp_len-here units c.loop-i.i c.unit-unit.result within c.unit-unit.ensures met c.loop-i.invariant.before) c.unit-unit.ensures

pub returns-then-is_surrogate-clause-copied : goal.returns-then-is_surrogate-clause-copied
returns-then-is_surrogate-clause-copied g c =
    let units = units_in g.E.Endian.OPPOSITE_ENDIAN c.args.self.now in
    let within : c.loop-i.i < length units = omega (arith, c.len-count.ensures g.E.Endian.OPPOSITE_ENDIAN) in
    let met : is_surrogate c.unit-unit.result ≡ true = cc in
    rw (bmp_len-here units c.loop-i.i c.unit-unit.result within c.unit-unit.ensures met c.loop-i.invariant.before) c.loop-i.invariant.copied
