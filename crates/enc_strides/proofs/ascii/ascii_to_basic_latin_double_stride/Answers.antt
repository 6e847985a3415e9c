use Rattle.enc_strides.proofs.UnitLemmas.{both_of}
use Rattle.enc_strides.proofs.ascii.ascii_to_basic_latin_double_stride.Goals as goal

pub returns-clause-copied : goal.returns-clause-copied
returns-clause-copied c = both_of c.args.src.now c.told-src
