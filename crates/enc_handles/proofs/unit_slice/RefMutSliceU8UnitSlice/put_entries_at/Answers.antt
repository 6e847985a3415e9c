use Rattle.std.proofs.Common.{arith}
use Rattle.enc_handles.proofs.EntryLemmas.{puts_entries}
use Rattle.enc_handles.proofs.unit_slice.RefMutSliceU8UnitSlice.put_entries_at.Goals as goal

pub returns-clause-moved : goal.returns-clause-moved
returns-clause-moved c =
    puts_entries c.args.self.now.now c.append_entries.new.dst c.args.at c.append_entries.result c.args.entries.now (omega arith) c.append_entries.ensures.bound c.append_entries.ensures.written c.append_entries.ensures.len
