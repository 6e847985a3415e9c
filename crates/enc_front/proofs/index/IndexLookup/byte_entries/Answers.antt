use Rattle.enc_front.proofs.EntryLemmas.{bytes_found}
use Rattle.enc_front.proofs.index.IndexLookup.byte_entries.Goals as goal

pub returns : goal.returns
returns c = bytes_found c.args.self.now.cells.cells.items c.args.self.now.byte_entries c.args.self.now.ready
