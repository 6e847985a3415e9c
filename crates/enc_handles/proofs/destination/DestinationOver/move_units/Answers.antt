use Rattle.std.proofs.Common.{ap, ◌∙◌, arith}
use Rattle.enc_handles.specs.Destination.{writing}
use Rattle.enc_handles.specs.Unaligned.{units_in}
use Rattle.enc_handles.specs.Writing.{after_writing}
use Rattle.enc_handles.proofs.BlockLemmas.{moves_row, moves_scalar, moves_none, scalar_fits}
use Rattle.enc_handles.proofs.destination.DestinationOver.move_units.Goals as goal

pub returns-then-count-gt0-clause-moved : goal.returns-then-count-gt0-clause-moved
returns-then-count-gt0-clause-moved g c =
    let window = units_in g.E.Endian.OPPOSITE_ENDIAN c.args.units.now in
    moves_row g.S.UnitSlice.encode g.S.UnitSlice.utf16_room window _ _ c.args.self.now.pos c.args.read c.copy_units_at-count.result _ _
    c.copy_units_at-count.ensures.moved (omega (arith, c.if-count-gt0.true)) c.copy_units_at-count.ensures.same_buffer

pub put_scalar-requires-clause-room : goal.put_scalar-requires-clause-room
put_scalar-requires-clause-room g c =
    let window = units_in g.E.Endian.OPPOSITE_ENDIAN c.args.units.now in
    let few = scalar_fits g.S.UnitSlice.encode window g.S.UnitSlice.utf16_room (writing c.args.self.now).free c.args.read c.in-Some.scalar c.in-Some.count
    c.requires.fits c.in-Some.ensures.some c.requires.room in
    omega (arith, few, c.copy_units_at-count.ensures.moved.moves.text.same_length)

pub returns-in_default-clause-stays : goal.returns-in_default-clause-stays
returns-in_default-clause-stays g c =
    let window = units_in g.E.Endian.OPPOSITE_ENDIAN c.args.units.now in
    moves_none g.S.UnitSlice.encode g.S.UnitSlice.utf16_room window _ _ c.args.self.now.pos c.args.read c.copy_units_at-count.result _ _
    c.copy_units_at-count.ensures.moved (omega (arith, c.if-count-gt0.false)) c.args.self.now.within c.copy_units_at-count.ensures.same_buffer

pub returns-clause-moved : goal.returns-clause-moved
returns-clause-moved g c =
    let form = g.S.UnitSlice.encode in
    let window = units_in g.E.Endian.OPPOSITE_ENDIAN c.args.units.now in
    let w = writing c.args.self.now in
    let stays = moves_none form g.S.UnitSlice.utf16_room window _ _ c.args.self.now.pos c.args.read c.copy_units_at-count.result _ _
    c.copy_units_at-count.ensures.moved (omega (arith, c.if-count-gt0.false)) c.args.self.now.within c.copy_units_at-count.ensures.same_buffer in
    let few = scalar_fits form window g.S.UnitSlice.utf16_room w.free c.args.read c.in-Some.scalar c.in-Some.count c.requires.fits c.in-Some.ensures.some c.requires.room in
    moves_scalar form g.S.UnitSlice.utf16_room window w (writing c.put_scalar.new.self) c.args.read c.in-Some.scalar c.in-Some.count c.in-Some.ensures.some
    (c.put_scalar.ensures ∙ ap (λ v. after_writing v (form c.in-Some.scalar)) stays) few c.requires.room
