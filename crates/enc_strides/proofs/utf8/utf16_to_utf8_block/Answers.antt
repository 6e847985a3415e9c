use Rattle.std.proofs.Common.{arith}
use Rattle.enc_strides.proofs.Utf8Lemmas.{all_appended}
use Rattle.enc_strides.proofs.utf8.utf16_to_utf8_block.Goals as goal

pub returns-clause-written : goal.returns-clause-written
returns-clause-written c =
    all_appended _ _ c.args.at c.loop-i.to c.loop-i.i c.entries-entries.result c.args.units c.loop-i.invariant.1 (omega arith) c.entries-entries.ensures c.fits-units.0 c.fits-units.1
