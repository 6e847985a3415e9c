use Rattle.std.proofs.Common.{ℕ, List, take, true, not, ◌&&◌, sym}
use Rattle.qp.specs.Items.{items, is_blank, may_stand_within}
use Rattle.qp.proofs.ItemLemmas.{goes_on-items, placed-entry, within-ends, within-goes}
use Rattle.qp.proofs.encoder.put_octet.Goals as goal

pub returns-then-ends_line-clause-value : goal.returns-then-ends_line-clause-value
returns-then-ends_line-clause-value c = λ mode kept.
    let byte : ℕ = c.args.byte in
    let after : List ℕ = c.args.after.now in
    placed-entry c.args.limit c.args.used c.put_item.result.1 c.goes_on-more.result (items mode after) (take c.args.at c.args.room.now) (take c.put_item.result.0 c.put_item.new.room)
    (c.goes_on-more.ensures mode kept) byte after _ (may_stand_within byte && not (is_blank byte)) c.last_entry.ensures (within-ends byte after (sym c.if-ends_line.ensures)) (c.put_item.ensures.broken, c.put_item.ensures.fits)

pub returns-clause-value : goal.returns-clause-value
returns-clause-value c = λ mode kept.
    let byte : ℕ = c.args.byte in
    let after : List ℕ = c.args.after.now in
    placed-entry c.args.limit c.args.used c.put_item-2.result.1 true (items mode after) (take c.args.at c.args.room.now) (take c.put_item-2.result.0 c.put_item-2.new.room)
    (goes_on-items mode after (sym c.if-ends_line.ensures)) byte after _ (may_stand_within byte) c.entry.ensures (within-goes byte after (sym c.if-ends_line.ensures)) (c.put_item-2.ensures.broken, c.put_item-2.ensures.fits)
