use Rattle.std.proofs.Common.{◌≡◌, ◌+◌, ◌-◌, [], length}
use Rattle.enc_handles.specs.Destination.{writing}
use Rattle.enc_drivers.specs.Driver.{standing, unit_of}
use Rattle.enc_drivers.specs.Turn.{Goes}
use Rattle.enc_drivers.specs.Front.{front_bytes}
use Rattle.enc_drivers.proofs.drivers.general.GeneralDriver.decode.Given as goal

abbrev pub invariant-loop-result : goal.invariant-loop-result
invariant-loop-result g l = record {
  goes : Goes (unit_of l.fn.self) g.S.UnitSlice.encode l.last (standing l.fn.self) (standing l.self) l.src l.read (writing l.fn.dest) (writing l.dest) [];
  same_code : unit_of l.self ≡ unit_of l.fn.self;
}

abbrev pub decreases-loop-result : goal.decreases-loop-result
decreases-loop-result g l = length (front_bytes l.self.held) + (length l.src - l.read)
