use Rattle.std.proofs.Common.{◌-◌, length}
use Rattle.enc_drivers.specs.Driver.{standing, unit_of}
use Rattle.enc_drivers.specs.Turn.{ReadsOnto}
use Rattle.enc_drivers.specs.Front.{front_bytes}
use Rattle.enc_drivers.proofs.drivers.general.GeneralDriver.look.Given as goal

abbrev pub invariant-loop-read : goal.invariant-loop-read
invariant-loop-read g l = ReadsOnto (unit_of l.self) (standing l.self).mode (front_bytes l.initial.front) (front_bytes l.front) l.src l.read

abbrev pub decreases-loop-read : goal.decreases-loop-read
decreases-loop-read g l = length l.src - l.read
