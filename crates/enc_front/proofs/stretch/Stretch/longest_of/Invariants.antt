use Rattle.enc_front.specs.Stretch.{Ends, HasStretch}
use Rattle.enc_front.proofs.stretch.Stretch.longest_of.Given as goal

abbrev pub invariant-loop-key : goal.invariant-loop-key
invariant-loop-key l = HasStretch l.keys l.longest × Ends l.keys l.key-index l.last
