use Rattle.enc_strides.proofs.MaskLemmas.{two_strides}
use Rattle.enc_strides.proofs.lanes.in_a_row.Goals as goal

pub returns : goal.returns
returns c = λ passes xs ys long e f. two_strides passes xs ys c.args.first c.args.second long e f
