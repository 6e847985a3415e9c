use Rattle.std.proofs.Common.{ap, ◌∙◌, ◌+◌, arith, ℕ}
use Rattle.std.proofs.lemmas.Simd.{length-put_chunk}
use lib.Lanes.{chunk}
use Rattle.std.specs.List.{position}
use Rattle.enc_strides.specs.Lanes.{is_past_ascii}
use Rattle.enc_strides.proofs.RunLemmas.{copied_on, take_stored, two_chunks}
use Rattle.enc_strides.proofs.runs.copy_double_stride.Goals as goal

pub returns : goal.returns
returns c =
    let at = c.args.at in
    let src = c.args.src.now in
    let long = length-put_chunk at c.args.dst.now (chunk at 16 src) in
    let half = take_stored _ _ at 16 (omega arith) (omega arith) c.requires.copied.same in
    let same = take_stored _ _ (at + 16) 16 (omega arith) (omega arith) half in
    copied_on _ _ at 32 (at + 16 + 16) _ c.requires.copied.ascii (omega arith) (omega arith) (omega (arith, length-put_chunk {A = ℕ})) same
    (c.past_in_two.ensures ∙ ap (position is_past_ascii) (two_chunks at 16 16 src))
