use Rattle.std.proofs.Common.{◌≡◌, ◌-◌, [], length}
use Rattle.enc_handles.specs.Destination.{writing}
use Rattle.enc_drivers.specs.Driver.{standing, unit_of}
use Rattle.enc_drivers.specs.Turn.{Goes}
use Rattle.enc_drivers.proofs.drivers.general.GeneralDriver.few_units.Given as goal

abbrev pub invariant-loop-read : goal.invariant-loop-read
invariant-loop-read g l = record {
  goes : Goes (unit_of l.initial.self) g.S.UnitSlice.encode l.last (standing l.initial.self) (standing l.self) l.src l.read (writing l.initial.dest) (writing l.dest) [];
  same_code : unit_of l.self ≡ unit_of l.initial.self;
}

abbrev pub decreases-loop-read : goal.decreases-loop-read
decreases-loop-read g l = length l.src - l.read
