use Rattle.std.proofs.Common.{arith}
use Rattle.enc_handles.specs.Lemmas.TextLaws.{at_start8}
use Rattle.enc_handles.proofs.char_source.CharSourceOver+ref+str.new.Goals as goal

pub invariant_of-result : goal.invariant_of-result
invariant_of-result c = record {
  within = omega arith;
  seam = at_start8 c.args.src.now;
  before_within = omega arith;
  before_seam = at_start8 c.args.src.now;
}
