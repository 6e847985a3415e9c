use Rattle.enc_handles.specs.Unaligned.{units_in}
use Rattle.enc_handles.proofs.BlockLemmas.{bmp_front}
use Rattle.enc_handles.proofs.unaligned.UnalignedU16Slice.copy_blocks_to.Goals as goal

pub returns-clause-before : goal.returns-clause-before
returns-clause-before g c =
    let window = units_in g.E.Endian.OPPOSITE_ENDIAN c.args.self.now in
    (bmp_front window c.args.other.now c.move_utf16-moved.new.dst c.move_utf16-moved.result c.move_utf16-moved.ensures).1

pub returns-clause-copied : goal.returns-clause-copied
returns-clause-copied g c =
    let window = units_in g.E.Endian.OPPOSITE_ENDIAN c.args.self.now in
    (bmp_front window c.args.other.now c.move_utf16-moved.new.dst c.move_utf16-moved.result c.move_utf16-moved.ensures).2
