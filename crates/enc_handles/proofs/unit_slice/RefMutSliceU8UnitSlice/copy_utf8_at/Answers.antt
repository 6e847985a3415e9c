use Rattle.std.proofs.Common.{◌-◌, length, drop, ◌∙◌, arith, length-drop, length-take}
use Rattle.enc_handles.proofs.CopyUtf8.{moves_utf8}
use Rattle.enc_handles.proofs.unit_slice.RefMutSliceU8UnitSlice.copy_utf8_at.Goals as goal

pub returns-clause-moved : goal.returns-clause-moved
returns-clause-moved c =
    let old = c.args.self.now.now in
    let at = c.args.at in
    let room = length-drop at old in
    let part = length-take (length old - at) (drop at old) in
    let fits = c.copy_utf8-len.ensures.fits in
    let same = c.copy_utf8-len.ensures.same_length in
    moves_utf8 c.args.src.now old c.copy_utf8-len.new.dst at c.copy_utf8-len.result c.requires (same ∙ omega arith) (omega arith)
    c.copy_utf8-len.ensures.within c.copy_utf8-len.ensures.whole c.copy_utf8-len.ensures.copied
