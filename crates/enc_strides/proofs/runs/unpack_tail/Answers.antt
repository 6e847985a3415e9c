use Rattle.std.proofs.Common.{◌+◌, set, sym, subst, arith}
use Rattle.enc_strides.specs.Runs.{Copied}
use Rattle.enc_strides.proofs.RunLemmas.{copied_byte}
use Rattle.enc_strides.proofs.runs.unpack_tail.Goals as goal

pub loop-at-preserved : goal.loop-at-preserved
loop-at-preserved c =
    let at = c.loop-at.at in
    let src = c.args.src.now in
    subst (λ b. Copied src (set c.loop-at.dst at b) (at + 1)) (sym c.from-unit.ensures)
    (copied_byte src c.loop-at.dst at c.loop-at.invariant (omega arith) (omega arith) (omega arith))
