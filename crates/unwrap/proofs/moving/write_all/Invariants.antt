use Rattle.std.proofs.Common.{length, ◌+◌, ◌-◌, ◌≡◌, ◌≤◌, take}
use Rattle.std.specs.Io.KnownBytes.{Appends}
use Rattle.unwrap.proofs.moving.write_all.Given as goal

abbrev pub invariant-loop-count : goal.invariant-loop-count
invariant-loop-count g l =
    record {
      within : l.count ≤ length l.bytes;
      written : Appends (g.K.Sink.taken l.initial.sink) (g.K.Sink.taken l.sink) (take l.count l.bytes);
      counted : g.K.Sink.faults l.sink ≡ g.K.Sink.faults l.initial.sink;
      calls : g.K.Sink.calls l.sink ≤ g.K.Sink.calls l.initial.sink + l.count;
    }

abbrev pub decreases-loop-count : goal.decreases-loop-count
decreases-loop-count g l = length l.bytes - l.count
