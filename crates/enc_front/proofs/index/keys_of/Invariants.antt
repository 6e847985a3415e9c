use Rattle.std.proofs.Common.{◌≡◌, take}
use Rattle.enc_front.specs.Keys.{pair_keys}
use Rattle.enc_front.proofs.index.keys_of.Given as goal

abbrev pub invariant-loop-pair : goal.invariant-loop-pair
invariant-loop-pair l = l.keys.items ≡ pair_keys (take l.pair-index l.pairs)
