use Rattle.std.proofs.Common.{refl}
use Rattle.enc_drivers.proofs.FrontSteps.{reads_more}
use Rattle.enc_drivers.proofs.drivers.general.GeneralDriver.look.Goals as goal

pub loop-read-preserved : goal.loop-read-preserved
loop-read-preserved g c =
    reads_more _ _ _ _ _ _ _ _ c.loop-read.invariant c.loop-read-test.true
    (rw c.as_slice.ensures at c.in_default.ensures.undecided)
    refl c.push.ensures
