use Rattle.std.proofs.Common.{◌-◌}
use Rattle.enc_strides.specs.Runs.{Copied}
use Rattle.enc_handles.proofs.basic_latin.basic_latin_to_ascii.Given as goal

abbrev pub invariant-loop-at : goal.invariant-loop-at
invariant-loop-at l = Copied l.src l.dst l.at

abbrev pub decreases-loop-at : goal.decreases-loop-at
decreases-loop-at l = l.end - l.at
