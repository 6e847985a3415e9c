use Rattle.std.proofs.Common.{◌≡◌, drop}
use Rattle.std.specs.Prelude.{map}
use Rattle.enc_front.specs.Indexes.{index_in, of_entry, indexes_of}
use Rattle.enc_front.proofs.tables.Tables.find.Given as goal

abbrev pub invariant-loop-entry : goal.invariant-loop-entry
invariant-loop-entry l = index_in (map of_entry (drop l.entry-index l.entry-items)) l.kind
    ≡ index_in (indexes_of l.self) l.kind
