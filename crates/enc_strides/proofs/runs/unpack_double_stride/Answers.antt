use Rattle.std.proofs.Common.{ap, ◌∙◌, ◌+◌, arith, ℕ}
use Rattle.std.proofs.lemmas.Simd.{length-put_chunk}
use Rattle.std.specs.List.{position}
use Rattle.enc_strides.specs.Lanes.{is_past_ascii}
use Rattle.enc_strides.proofs.RunLemmas.{copied_on, stored_as, two_chunks}
use Rattle.enc_strides.proofs.runs.unpack_double_stride.Goals as goal

pub returns : goal.returns
returns c =
    let at = c.args.at in
    let src = c.args.src.now in
    let long = length-put_chunk at c.args.dst.now c.simd_unpack-first.result in
    let half = stored_as src _ _ at 16 c.simd_unpack-first.ensures (omega arith) (omega arith) c.requires.copied.same in
    let same = stored_as src _ _ (at + 16) 16 c.simd_unpack-second.ensures (omega arith) (omega arith) half in
    copied_on _ _ at 32 (at + 16 + 16) _ c.requires.copied.ascii (omega arith) (omega arith) (omega (arith, length-put_chunk {A = ℕ})) same
    (c.past_in_two.ensures ∙ ap (position is_past_ascii) (two_chunks at 16 16 src))
