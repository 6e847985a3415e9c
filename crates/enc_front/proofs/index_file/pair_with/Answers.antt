use Rattle.std.proofs.Common.{sym, subst}
use Rattle.enc_front.specs.IndexFile.{AreDigits}
use Rattle.enc_front.proofs.IndexFileLemmas.{scalar_digits}
use Rattle.enc_front.proofs.index_file.pair_with.Goals as goal

pub pair_of_parts-requires-clause-scalar : goal.pair_of_parts-requires-clause-scalar
pair_of_parts-requires-clause-scalar c = subst (AreDigits 16) (sym c.split_front.ensures.front)
    (scalar_digits c.args.text.now)
