use Rattle.std.proofs.Common.{◌≡◌, ◌≤◌, string_bytes}
use Rattle.unwrap.specs.Made.{made}
use Rattle.unwrap.proofs.run.make.header_of.Given as goal

abbrev pub invariant-loop-number : goal.invariant-loop-number
invariant-loop-number l =
    record {
      text : string_bytes l.header ≡ made l.number;
      within : l.number ≤ l.parts;
    }
