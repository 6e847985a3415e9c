use Rattle.std.proofs.Common.{◌≡◌, take, drop}
use Rattle.std.specs.Option.{option_map}
use Rattle.people.specs.Frame.{cut_text}
use Rattle.people.specs.TextSteps.{cut_after}
use Rattle.people.proofs.TextLemmas.{with_front}
use Rattle.people.proofs.frame.split_text.Given as goal

-- the text that stands behind a place, with the bytes before it
abbrev pub invariant-loop-at : goal.invariant-loop-at
invariant-loop-at l = cut_text l.bytes ≡ option_map (with_front (take l.at l.bytes)) (cut_after l.after_equals (drop l.at l.bytes))
