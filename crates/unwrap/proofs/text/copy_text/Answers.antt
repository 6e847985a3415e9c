use Rattle.std.proofs.Common.{rules, Ok, ◌≡◌, ◌+◌, ◌-◌, ◌^◌, ◌<◌, ◌≤◌, min, length, take, refl, sym, ap, ◌∙◌, arith, length-take-le}
use Rattle.enc_io.proofs.BoundLemmas.{few_reader}
use Rattle.unwrap.proofs.Copying.{copying_end, copying_fault, copying_limit, copying_more, copying_sink, copying_start}
use Rattle.unwrap.proofs.text.copy_text.Goals as goal

pub loop-n-init : goal.loop-n-init
loop-n-init g c = record { copying = copying_start _ _; room = refl; faults = refl }

pub loop-n-preserved : goal.loop-n-preserved
loop-n-preserved g c =
    let room : 0 < length c.loop-n.piece = omega (arith, c.loop-n.invariant.room, c.requires) in
    let len : length (take c.in-Ok.n c.read.new.buf) ≡ c.in-Ok.n = length-take-le c.in-Ok.n c.read.new.buf c.in-Ok.ensures.within.0 in
    record {
      copying = copying_more _ _ _ _ _ _ _ _ _ c.loop-n.invariant.copying (c.in-Ok.ensures.does room) c.in_default.ensures.written
          (c.saturating_add-count.ensures ∙ ap (λ k. min (c.loop-n.count + k) (2 ^ 64 - 1)) (sym len));
      room = c.in-Ok.ensures.len ∙ c.loop-n.invariant.room;
      faults = c.in_default.ensures.counted ∙ c.loop-n.invariant.faults;
    }

pub returns-in-Ok-eq0-clause-copies : goal.returns-in-Ok-eq0-clause-copies
returns-in-Ok-eq0-clause-copies g c =
    let room : 0 < length c.loop-n.piece = omega (arith, c.loop-n.invariant.room, c.requires) in
    let zero : c.in-Ok-eq0.field-0 ≡ 0 = search rules in
    let goes = (rw zero at c.in-Ok-eq0.ensures.does) room in
    let given = c.in-Ok-eq0.ensures.end room (ap Ok zero) in
    copying_end _ _ _ _ _ _ c.loop-n.invariant.copying goes given (c.in-Ok-eq0.ensures.left given.ended)

pub returns-in-Err-ReadFault-clause-copies : goal.returns-in-Err-ReadFault-clause-copies
returns-in-Err-ReadFault-clause-copies g c =
    let room : 0 < length c.loop-n.piece = omega (arith, c.loop-n.invariant.room, c.requires) in
    copying_fault _ _ _ _ _ _ c.loop-n.invariant.copying ((rw c.in-Err-ReadFault.field-0-is at c.in-Err-ReadFault.ensures.does) room) c.in-Err-ReadFault.ensures.left
    c.in-Err-ReadFault.ensures.small (few_reader c.read.new.self ((rw c.in-Err-ReadFault.field-0-is at c.in-Err-ReadFault.ensures.does) room).keeps)

pub returns-in-Err-TooMuch-clause-copies : goal.returns-in-Err-TooMuch-clause-copies
returns-in-Err-TooMuch-clause-copies g c =
    let room : 0 < length c.loop-n.piece = omega (arith, c.loop-n.invariant.room, c.requires) in
    copying_limit _ _ _ _ _ _ c.loop-n.invariant.copying ((rw c.in-Err-TooMuch.field-0-is at c.in-Err-TooMuch.ensures.does) room) c.in-Err-TooMuch.ensures.left

pub returns-in-Err-clause-copies : goal.returns-in-Err-clause-copies
returns-in-Err-clause-copies g c =
    let room : 0 < length c.loop-n.piece = omega (arith, c.loop-n.invariant.room, c.requires) in
    let few : length (take c.in-Ok.n c.read.new.buf) ≤ length c.args.piece.now =
    omega (arith, length-take-le c.in-Ok.n c.read.new.buf c.in-Ok.ensures.within.0, c.in-Ok.ensures.within.0, c.in-Ok.ensures.len, c.loop-n.invariant.room) in
    copying_sink _ _ _ _ _ _ _ _ _ c.in-Err.ensures.prefix.0 c.loop-n.invariant.copying (c.in-Ok.ensures.does room) c.in-Ok.ensures.left
    c.in-Err.ensures.prefix.1 c.in-Err.ensures.prefix.2 few c.in-Ok.ensures.small
