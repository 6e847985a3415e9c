use Rattle.std.proofs.Common.{refl, arith}
use Rattle.std.proofs.lemmas.List.{length-take-le}
use Rattle.qp.proofs.LaneLemmas.{three_stored}
use Rattle.qp.proofs.encoder.put_entry.Goals as goal

pub returns-clause-written : goal.returns-clause-written
returns-clause-written c =
    let three = length-take-le 3 c.args.entry.now (omega (arith, c.told-entry)) in
    three_stored c.args.room.now c.put.new.room c.args.entry.now c.args.at c.from.result c.put.result c.from.result (omega (arith, c.requires.room)) (omega (arith, c.requires.wide, c.from.ensures)) c.from.ensures refl (omega (arith, c.put.ensures.end, three)) c.put.ensures.written
