use Rattle.enc_handles.proofs.EntryLemmas.{writes_entries}
use Rattle.enc_handles.proofs.destination.DestinationOver.write_entries.Goals as goal

pub returns-clause-written : goal.returns-clause-written
returns-clause-written g c = λ told.
    writes_entries g.S.UnitSlice.encode _ _ c.args.self.now.pos c.in-Some.end c.args.entries.now _ _ c.in-Some.ensures.moved c.args.self.now.within c.put_entries_at.ensures.same_buffer
