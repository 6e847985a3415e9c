use Rattle.std.proofs.Common.{length-set, arith}
use Rattle.enc_front.specs.Cells.{byte_entry}
use Rattle.enc_front.proofs.EntryLemmas.{one_byte_more}
use Rattle.enc_front.proofs.index.Cells.byte_entries.Goals as goal

pub loop-byte-preserved : goal.loop-byte-preserved
loop-byte-preserved c = (
  omega (arith, c.loop-byte.invariant.0, length-set c.loop-byte.entries c.loop-byte.byte c.byte_entry.result),
  one_byte_more (byte_entry c.args.self.now.cells.items) c.loop-byte.entries c.loop-byte.byte c.byte_entry.result
      (omega (arith, c.loop-byte.invariant.0)) c.loop-byte.invariant.1 c.byte_entry.ensures,
)
