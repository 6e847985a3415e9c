use Rattle.std.proofs.Common.{sym, subst, ◌∙◌, w8, Fits}
use Rattle.std.proofs.lemmas.List.{map-id}
use lib.Lanes.{Each1}
use Rattle.enc_strides.proofs.UnitLemmas.{low_lanes, low_fit}
use Rattle.enc_strides.proofs.ascii.low_bytes.Goals as goal

pub overflow_cast-result : goal.overflow_cast-result
overflow_cast-result c = subst (Each1 (Fits w8)) (sym (low_lanes c.args.v 16 c.fits-v.0)) (low_fit c.args.v)

pub returns : goal.returns
returns c = map-id _ ∙ low_lanes c.args.v 16 c.fits-v.0
