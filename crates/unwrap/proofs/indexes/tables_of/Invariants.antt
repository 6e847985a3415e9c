use Rattle.std.proofs.Common.{◌≡◌, [], map}
use Rattle.enc_front.specs.Indexes.{indexes_of}
use Rattle.unwrap.specs.Values.{file_view}
use Rattle.unwrap.proofs.FilesTaken.{Took}
use Rattle.unwrap.proofs.indexes.tables_of.Given as goal

abbrev pub invariant-loop-number : goal.invariant-loop-number
invariant-loop-number g l =
    record {
      took : Took (map file_view l.files) (g.F.Shelf.files l.initial.shelf) (g.F.Shelf.files l.shelf) (g.F.Shelf.faults l.initial.shelf) (g.F.Shelf.faults l.shelf)
          (g.F.Shelf.calls l.initial.shelf) (g.F.Shelf.calls l.shelf) l.number (indexes_of l.tables);
      kept : map file_view l.files ≡ [] → l.shelf ≡ l.initial.shelf;
    }
