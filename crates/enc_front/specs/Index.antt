-- The scalars that an index has.
use Rattle.std.specs.Prelude.{Bool, true, false}
use Rattle.enc_drivers.specs.Lookup.{Places}
use Rattle.enc_front.specs.declared.index.Index.{Index}
use Rattle.enc_front.specs.declared.index.Ranges.{Ranges}
use Rattle.enc_front.specs.declared.index.AnyIndex.{AnyIndex}
use Rattle.enc_front.specs.declared.index.AnyIndex.TheVariants.{OfCells, OfRanges}
use Rattle.enc_front.specs.Cells.{cell_places}
use Rattle.enc_front.specs.Ranges.{range_places}

abbrev pub index_places : Index → Places
index_places index = cell_places index.cells.cells.items

abbrev pub ranges_places : Ranges → Places
ranges_places ranges = range_places ranges.rows.items

abbrev pub any_places : AnyIndex → Places
any_places (OfCells index) = index_places index
any_places (OfRanges ranges) = ranges_places ranges

abbrev pub is_of_ranges : AnyIndex → Bool
is_of_ranges (OfCells index) = false
is_of_ranges (OfRanges ranges) = true
