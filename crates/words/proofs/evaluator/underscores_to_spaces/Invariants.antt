use Rattle.std.proofs.Common.{◌≡◌, ℕ, ◌<◌, ◌≤◌, get_or}
use Rattle.words.specs.Header.{underscore_to_space}
use Rattle.words.proofs.evaluator.underscores_to_spaces.Given as goal

-- the bytes so far are changed, and those that are left aren't yet
abbrev pub invariant-loop-byte : goal.invariant-loop-byte
invariant-loop-byte l = record {
  changed : (k : ℕ) → k < l.byte-index → get_or l.text k 0 ≡ underscore_to_space (get_or l.initial.text k 0);
  kept : (k : ℕ) → l.byte-index ≤ k → get_or l.text k 0 ≡ get_or l.initial.text k 0;
}
