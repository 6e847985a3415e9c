use Rattle.std.proofs.Common.{sym}
use Rattle.enc_front.proofs.EntryLemmas.{byte_some, byte_none}
use Rattle.enc_front.proofs.index.Cells.byte_entry.Goals as goal

pub returns-in-Some : goal.returns-in-Some
returns-in-Some c =
    byte_some c.args.self.now.cells.items c.deref.result.now c.args.byte c.in-Some.cell.now c.cell_entry.result (sym c.deref.ensures.value) c.if-byte-lt128.false
    c.in-Some.ensures.lookup.3.0 c.in-Some.ensures.lookup.1 c.cell_entry.ensures

pub returns-in-None : goal.returns-in-None
returns-in-None c = byte_none c.args.self.now.cells.items c.deref.result.now c.args.byte (sym c.deref.ensures.value) c.if-byte-lt128.false c.in-None.ensures.lookup.3
