use Rattle.std.proofs.Common.{sym}
use Rattle.enc_front.proofs.RangeLemmas.{ranges_sorted, ranges_sound}
use Rattle.enc_front.proofs.tables.Entry.of_rows.Goals as goal

pub of_rows-requires-clause-sorted : goal.of_rows-requires-clause-sorted
of_rows-requires-clause-sorted c = ranges_sorted c.args.rows.now (sym c.in-None.ensures)

pub of_rows-requires-clause-sound : goal.of_rows-requires-clause-sound
of_rows-requires-clause-sound c = ranges_sound c.args.rows.now (sym c.in-None.ensures)
