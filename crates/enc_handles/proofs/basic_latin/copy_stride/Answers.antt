use Rattle.std.proofs.Common.{ℕ, ◌+◌, None, ◌∙◌, sym, arith}
use Rattle.std.proofs.lemmas.Simd.{length-put_chunk}
use Rattle.enc_strides.proofs.RunLemmas.{copied_on, stored_as}
use Rattle.enc_handles.proofs.NarrowLemmas.{packed}
use Rattle.enc_handles.proofs.basic_latin.copy_stride.Goals as goal

pub returns-clause-copied : goal.returns-clause-copied
returns-clause-copied c all =
    let src = c.args.src.now in
    let at = c.args.at in
    let both = packed src at (sym c.if-not-simd_is_basic_latin.ensures) (sym c.if-not-simd_is_basic_latin-2.ensures) in
    let same = stored_as src c.args.dst.now c.simd_pack.result at 16 (c.simd_pack.ensures ∙ both.0) c.requires.src c.requires.dst c.requires.copied.same in
    copied_on src _ at 16 (at + 16) None c.requires.copied.ascii (omega arith) c.requires.src (omega (arith, length-put_chunk {A = ℕ})) same both.1
