use Rattle.std.proofs.Common.{◌≡◌, ◌+◌, length, take, drop}
use Rattle.enc_handles.specs.Unaligned.{units_in}
use Rattle.enc_handles.specs.Utf16.{bmp_len}
use Rattle.enc_handles.proofs.unaligned.UnalignedU16Slice.copy_bmp_to.Given as goal

abbrev pub invariant-loop-i : goal.invariant-loop-i
invariant-loop-i g l =
    let units = units_in g.E.Endian.OPPOSITE_ENDIAN l.self in
    record {
      before : l.i + bmp_len (drop l.i units) ≡ bmp_len units;
      copied : take l.i l.other ≡ take l.i units;
      stays : drop (length units) l.other ≡ drop (length units) l.initial.other;
    }
