use Rattle.std.proofs.Common.{◌-◌, length, drop, arith, length-drop}
use Rattle.enc_handles.proofs.AsciiLemmas.{moved_len_le}
use Rattle.enc_handles.proofs.char_source.CharSourceOver.copy_ascii.Goals as goal

pub invariant_of-self : goal.invariant_of-self
invariant_of-self g c =
    let list = g.T.TextSlice.elements c.args.self.now.slice in
    let at = c.args.self.now.pos in
    let room = length (g.D.ByteBuffer.bytes c.args.dest.now.slice) - c.args.dest.now.pos in
    record {
      within = omega (arith, moved_len_le (drop at list) room, length-drop at list, c.put_ascii-end.ensures.end);
      seam = c.put_ascii-end.ensures.seam;
      before_within = omega arith;
      before_seam = c.put_ascii-end.ensures.seam;
    }
