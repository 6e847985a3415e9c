use Rattle.std.proofs.Common.{◌≡◌, ◌-◌, length, take, drop, arith, length-drop, length-take}
use Rattle.enc_handles.specs.AsciiToBytes.{moved_ascii}
use Rattle.enc_handles.proofs.AsciiLemmas.{length-take-moved_len}
use Rattle.enc_handles.proofs.PutLemmas.{puts_behind}
use Rattle.enc_handles.proofs.byte_buffer.RefMutSliceU8ByteBuffer.copy_ascii_at.Goals as goal

pub returns-clause-text : goal.returns-clause-text
returns-clause-text g c =
    let old = c.args.self.now.now in
    let at = c.args.at in
    let list = drop c.args.from (g.T.TextSlice.elements c.args.source.now) in
    let room : length (take (length old - at) (drop at old)) ≡ length old - at = omega (arith, length-drop at old, length-take (length old - at) (drop at old)) in
    let ascii = moved_ascii list (length old - at) in
    let ys = c.copy_ascii_from-end.new.dst in
    let copied : take (length ascii) ys ≡ ascii = rw room at c.copy_ascii_from-end.ensures.copied in
    let long : length ys ≡ length old - at = omega arith in
    puts_behind old ys ascii at c.requires.at long (omega (arith, length-take-moved_len list (length old - at))) copied
