use Rattle.enc_handles.proofs.EntryLemmas.{writes_entry}
use Rattle.enc_handles.proofs.destination.DestinationOver.write_entry.Goals as goal

pub returns-clause-written : goal.returns-clause-written
returns-clause-written g c = λ told.
    writes_entry g.S.UnitSlice.encode _ _ c.args.self.now.pos c.in-Some.end c.args.entry _ _ c.in-Some.ensures.moved c.args.self.now.within c.put_entry_at.ensures.same_buffer
