use Rattle.std.proofs.Common.{length, ap, arith, length-drop}
use Rattle.std.proofs.lemmas.List.{take_rest}
use Rattle.enc_drivers.proofs.Turns.{goes_nothing, goes_more}
use Rattle.enc_drivers.proofs.drivers.general.GeneralDriver.copy_text.Goals as goal

pub loop-read-init : goal.loop-read-init
loop-read-init g c = (omega arith, λ last mode. goes_nothing _ _ last _ _ _)

pub loop-read-preserved : goal.loop-read-preserved
loop-read-preserved g c =
    let rest = take_rest c.args.src.now c.loop-read.read in
    let moved = rw rest at c.copy_part-more.ensures.goes in (
      omega (arith, c.copy_part-more.ensures.within, length-drop c.loop-read.read c.args.src.now, ap length rest),
      λ last mode. goes_more _ _ _ _ _ _ _ _ _ _ _ _ _ (c.loop-read.invariant.1 last mode) (moved last mode),
    )

pub returns-then-more-eq0 : goal.returns-then-more-eq0
returns-then-more-eq0 g c =
    let rest = take_rest c.args.src.now c.loop-read.read in
    let moved = rw rest at c.copy_part-more.ensures.goes in
    λ last mode. goes_more _ _ _ _ _ _ _ _ _ _ _ _ _ (c.loop-read.invariant.1 last mode) (moved last mode)
