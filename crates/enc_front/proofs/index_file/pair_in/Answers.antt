use Rattle.std.proofs.Common.{sym, subst}
use Rattle.enc_front.specs.IndexFile.{AreDigits}
use Rattle.enc_front.proofs.IndexFileLemmas.{place_digits}
use Rattle.enc_front.proofs.index_file.pair_in.Goals as goal

pub pair_behind-requires : goal.pair_behind-requires
pair_behind-requires c = subst (AreDigits 10) (sym c.split_front.ensures.front)
    (place_digits c.args.text.now)
