use Rattle.std.proofs.Common.{◌≡◌, take, drop}
use Rattle.enc_front.specs.declared.tables.IndexKind.TheVariants.{Gb18030Ranges}
use Rattle.enc_front.specs.Tables.{fault_behind, last_place, row_fault}
use Rattle.enc_front.proofs.rows.ranges_fault.Given as goal

abbrev pub invariant-loop-at : goal.invariant-loop-at
invariant-loop-at l = record {
  last : l.last ≡ last_place (take l.at l.rows);
  fault : fault_behind Gb18030Ranges (take l.at l.rows) (drop l.at l.rows)
      ≡ row_fault Gb18030Ranges l.rows;
}
