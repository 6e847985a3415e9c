use Rattle.std.proofs.Common.{◌-◌, length, drop, ◌∙◌, arith, length-drop, length-take}
use Rattle.enc_handles.proofs.AsciiLemmas.{run_len-is, ascii_behind}
use Rattle.enc_handles.proofs.unit_slice.RefMutSliceU16UnitSlice.copy_ascii_at.Goals as goal

pub returns-clause-end : goal.returns-clause-end
returns-clause-end c =
    let old = c.args.self.now.now in
    let at = c.args.at in
    let count = c.ascii_to_basic_latin-len.ensures.count in
    omega (arith, run_len-is c.args.src.now, length-drop at old, length-take (length old - at) (drop at old))

pub returns-clause-text : goal.returns-clause-text
returns-clause-text c =
    let old = c.args.self.now.now in
    let at = c.args.at in
    let room = length-drop at old in
    let part = length-take (length old - at) (drop at old) in
    let run = run_len-is c.args.src.now in
    let count = c.ascii_to_basic_latin-len.ensures.count in
    ascii_behind c.args.src.now old c.ascii_to_basic_latin-len.new.dst at c.ascii_to_basic_latin-len.result c.requires (c.ascii_to_basic_latin-len.ensures.len ∙ omega arith)
    (omega arith) c.ascii_to_basic_latin-len.ensures.copied
