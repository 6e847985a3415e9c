use Rattle.std.proofs.Common.{◌≡◌, ℕ, length, take, drop}
use Rattle.enc_front.specs.Cells.{cell_places}
use Rattle.enc_front.specs.Kinds.{place_count}
use Rattle.enc_front.specs.Tables.{fault_behind, pair_places, row_fault}
use Rattle.enc_front.proofs.rows.flat_index.Given as goal

abbrev pub invariant-loop-row : goal.invariant-loop-row
invariant-loop-row l = record {
  len : length l.cells.cells.items ≡ place_count l.kind;
  places : (place : ℕ)
      → cell_places l.cells.cells.items place ≡ pair_places (take l.row l.pairs) place;
  fault : fault_behind l.kind (take l.row l.pairs) (drop l.row l.pairs) ≡ row_fault l.kind l.pairs;
}
