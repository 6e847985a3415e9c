use Rattle.std.proofs.Common.{rules, subst, arith}
use Rattle.std.specs.Io.KnownBytes.{Consumes}
use Rattle.std.proofs.KnownBytes.{Consumes-trans}
use Rattle.enc_io.proofs.Moves.{filled_more}
use Rattle.enc_io.proofs.filling.read_full.Goals as goal

pub loop-count-preserved : goal.loop-count-preserved
loop-count-preserved g c =
    let from = c.loop-count.count in
    let joined = filled_more from c.in-Ok.n c.loop-count.buf c.read.new.buf c.loop-count.invariant.within c.in-Ok.ensures.within.0 in
    record {
      same_length = search rules;
      within = search rules;
      moved = subst (Consumes _ _) joined (Consumes-trans _ _ _ _ _ c.loop-count.invariant.moved c.in-Ok.ensures.moved.0);
      silent = search rules;
      calls = omega (arith, c.in-Ok.ensures.calls);
      start = search rules;
      counted = search rules;
    }
