use Rattle.std.proofs.Common.{arith}
use Rattle.enc_handles.proofs.EntryLemmas.{puts_entry}
use Rattle.enc_handles.proofs.unit_slice.RefMutSliceU8UnitSlice.put_entry_at.Goals as goal

pub returns-clause-moved : goal.returns-clause-moved
returns-clause-moved c =
    puts_entry c.args.self.now.now c.append_entry.new.dst c.args.at c.append_entry.result c.args.entry (omega arith) c.append_entry.ensures.bound c.append_entry.ensures.written c.append_entry.ensures.len
