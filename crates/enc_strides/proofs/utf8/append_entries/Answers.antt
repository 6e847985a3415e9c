use Rattle.std.proofs.Common.{arith}
use Rattle.enc_strides.proofs.Utf8Lemmas.{all_entries}
use Rattle.enc_strides.proofs.utf8.append_entries.Goals as goal

pub returns-clause-written : goal.returns-clause-written
returns-clause-written c = all_entries _ _ c.args.at c.loop-i.to c.loop-i.i c.args.entries.now c.loop-i.invariant.1 (omega arith)
