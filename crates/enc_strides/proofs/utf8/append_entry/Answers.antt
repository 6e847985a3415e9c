use Rattle.enc_strides.proofs.Utf8Lemmas.{bytes_are, stored}
use Rattle.enc_strides.proofs.utf8.append_entry.Goals as goal

pub returns-clause-written : goal.returns-clause-written
returns-clause-written c = stored _ _ c.args.to c.args.entry (bytes_are c.args.entry) c.requires
