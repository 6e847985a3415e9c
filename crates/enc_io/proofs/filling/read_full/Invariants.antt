use Rattle.std.proofs.Common.{length, ◌+◌, ◌-◌, ◌≡◌, ◌≤◌, IsNone, take}
use Rattle.std.specs.Io.KnownBytes.{Consumes}
use Rattle.enc_io.proofs.filling.read_full.Given as goal

abbrev pub invariant-loop-count : goal.invariant-loop-count
invariant-loop-count g l =
    record {
      same_length : length l.buf ≡ length l.initial.buf;
      within : l.count ≤ length l.buf;
      moved : Consumes (g.S.Source.left l.initial.source) (g.S.Source.left l.source) (take l.count l.buf);
      silent : IsNone (g.S.Source.left l.initial.source) → IsNone (g.S.Source.left l.source);
      calls : g.S.Source.calls l.source ≤ g.S.Source.calls l.initial.source + l.count;
      start : l.count ≡ 0 → l.source ≡ l.initial.source;
      counted : g.S.Source.faults l.source ≡ g.S.Source.faults l.initial.source;
    }

abbrev pub decreases-loop-count : goal.decreases-loop-count
decreases-loop-count g l = length l.initial.buf - l.count
