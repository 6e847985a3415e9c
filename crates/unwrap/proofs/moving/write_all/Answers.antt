use Rattle.std.proofs.Common.{◌<◌, ◌-◌, rules, subst, length, take, drop, arith, length-take, length-drop}
use Rattle.std.specs.Io.KnownBytes.{Appends}
use Rattle.std.proofs.KnownBytes.{Appends-trans}
use Rattle.unwrap.proofs.Written.{written_more}
use Rattle.unwrap.proofs.moving.write_all.Goals as goal

pub loop-count-preserved : goal.loop-count-preserved
loop-count-preserved g c =
    let bytes = c.args.bytes.now in
    let count = c.loop-count.count in
    let some : 0 < length (take (length bytes - count) (drop count bytes)) = omega (arith, length-take (length bytes - count) (drop count bytes), length-drop count bytes, c.loop-count-test.true) in
    let moved = c.in-Ok.ensures.some some in
    record {
      within = search rules;
      written = subst (Appends _ _) (written_more c.loop-count.count c.in-Ok.n c.args.bytes.now) (Appends-trans _ _ _ _ _ c.loop-count.invariant.written c.in-Ok.ensures.appended);
      counted = search rules;
      calls = omega (arith, c.in-Ok.ensures.calls, c.loop-count.invariant.calls, moved);
    }
