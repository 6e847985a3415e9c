use Rattle.std.proofs.Common.{◌-◌, ◌≤◌, Bool, [], length}
use Rattle.enc_handles.specs.Destination.{writing}
use Rattle.enc_drivers.specs.declared.unit.Mode.{Mode}
use Rattle.enc_drivers.specs.Driver.{unit_of}
use Rattle.enc_drivers.specs.Turn.{Goes}
use Rattle.enc_drivers.proofs.drivers.general.GeneralDriver.copy_entries.Given as goal

abbrev pub invariant-loop-read : goal.invariant-loop-read
invariant-loop-read g l =
    (l.read ≤ length l.src) × ((last : Bool) (mode : Mode) → Goes (unit_of l.self) g.S.UnitSlice.encode last (record { held = []; mode = mode }) (record { held = []; mode = mode })
    l.src l.read (writing l.fn.dest) (writing l.dest) [])

abbrev pub decreases-loop-read : goal.decreases-loop-read
decreases-loop-read g l = length l.src - l.read
