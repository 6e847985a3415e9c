use Rattle.std.proofs.Common.{◌≡◌, ◌-◌, ◌≤◌, ◌<◌, length, take}
use Rattle.std.specs.Str.{IsUtf8}
use Rattle.enc_handles.proofs.utf8_parts.copy_parts.Given as goal

abbrev pub invariant-loop-at : goal.invariant-loop-at
invariant-loop-at l =
    (l.at ≤ length l.src) × (0 < l.size) × (l.size ≤ 2048) × IsUtf8 (take l.at l.src) × (take l.at l.dst ≡ take l.at l.src) × (length l.dst ≡ length l.initial.dst)

abbrev pub decreases-loop-at : goal.decreases-loop-at
decreases-loop-at l = length l.src - l.at
