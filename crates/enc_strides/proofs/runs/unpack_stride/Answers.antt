use Rattle.std.proofs.Common.{◌+◌, ℕ, arith}
use Rattle.std.proofs.lemmas.Simd.{length-put_chunk}
use Rattle.enc_strides.proofs.RunLemmas.{copied_on, stored_as}
use Rattle.enc_strides.proofs.runs.unpack_stride.Goals as goal

pub returns : goal.returns
returns c =
    let at = c.args.at in
    let same = stored_as c.args.src.now _ _ at 16 c.simd_unpack-units.ensures c.requires.src c.requires.dst c.requires.copied.same in
    copied_on _ _ at 16 (at + 16) _ c.requires.copied.ascii (omega arith) (omega arith) (omega (arith, length-put_chunk {A = ℕ})) same c.past_lane.ensures
