use Rattle.std.proofs.Common.{◌∙◌}
use Rattle.enc_front.proofs.EntryLemmas.{entry_found}
use Rattle.enc_front.proofs.index.IndexLookup.entry.Goals as goal

pub returns-in-Some : goal.returns-in-Some
returns-in-Some c = λ some.
    entry_found c.args.self.now.cells.cells.items c.deref.result.now c.args.place c.in-Some.entry.now (c.deref.ensures.value ∙ c.args.self.now.entered)
    c.in-Some.ensures.lookup.3.0 c.in-Some.ensures.lookup.1 some
