use Rattle.std.proofs.Common.{◌≡◌, ◌-◌, ◌*◌, ◌/◌, ◌≤◌, Bool, true, false, length, subst, ap, ◌∙◌, arith}
use Rattle.enc_handles.specs.ByteSource.{reading}
use Rattle.enc_handles.specs.Copies.{CopiesUnits}
use Rattle.enc_handles.specs.Destination.{writing}
use Rattle.enc_handles.specs.Reading.{left, after_reading}
use Rattle.enc_handles.specs.Unaligned.{units_in}
use Rattle.enc_handles.specs.Utf16.{code_units, utf16_window}
use Rattle.enc_handles.proofs.CopyUtf16.{window_is, window_fits, window_le, copies16_none, copies16_some}
use Rattle.enc_handles.proofs.destination.DestinationOverDestination.copy_utf16_from.Goals as goal

pub copy_units-read-requires : goal.copy_units-read-requires
copy_units-read-requires g c =
    let big = g.E.Endian.OPPOSITE_ENDIAN in
    window_fits g.S.UnitSlice.encode g.S.UnitSlice.utf16_room g.S.UnitSlice.utf16_taken (writing c.args.self.now).free
    c.utf16_count-count.result (length c.rest-bytes.result.now / 2) _ (units_in big c.new.result) (code_units big c.rest-bytes.result.now)
    g.met.S.UnitSlice.takes_what_fits c.without_last_lead-units.ensures (c.new.ensures big) c.utf16_count-count.ensures.taken

pub returns-then-unpaired : goal.returns-then-unpaired
returns-then-unpaired g c =
    let big = g.E.Endian.OPPOSITE_ENDIAN in
    let r = reading c.args.source.now in
    let w = writing c.args.self.now in
    let u = units_in big c.without_last_lead-units.result in
    let read = c.copy_units-read.result.0 in
    let window : u ≡ utf16_window g.S.UnitSlice.utf16_taken w.free (code_units big (left r)) =
    window_is g.S.UnitSlice.utf16_taken big c.rest-bytes.result.now (left r) u (units_in big c.new.result) w.free c.utf16_count-count.result
    c.without_last_lead-units.ensures (c.new.ensures big) c.utf16_count-count.ensures.taken c.rest-bytes.ensures in
    let most : length u ≤ c.utf16_count-count.result =
    window_le c.utf16_count-count.result u (units_in big c.new.result) (code_units big c.rest-bytes.result.now) c.without_last_lead-units.ensures (c.new.ensures big) in
    let same = ap length c.rest-bytes.ensures in
    let moved : length (left r) - (length c.rest-bytes.result.now - 2 * read) ≡ 2 * read =
    omega (arith, most, same, c.utf16_count-count.ensures.within, c.copy_units-read.ensures.within) in
    let units : CopiesUnits g.S.UnitSlice.encode u g.S.UnitSlice.utf16_room w (writing c.copy_units-read.new.self) read true =
    subst (λ (b : Bool). CopiesUnits g.S.UnitSlice.encode u g.S.UnitSlice.utf16_room w (writing c.copy_units-read.new.self) read b) c.if-unpaired.true c.copy_units-read.ensures in
    rw (← window)
    (copies16_some g.S.UnitSlice.encode u g.S.UnitSlice.utf16_room r _ w (writing c.copy_units-read.new.self) read (c.consumed.result, c.written.result)
    units (c.read_until.ensures ∙ ap (after_reading r) moved) c.consumed.ensures.place c.written.ensures)

pub returns-else-unpaired : goal.returns-else-unpaired
returns-else-unpaired g c =
    let big = g.E.Endian.OPPOSITE_ENDIAN in
    let r = reading c.args.source.now in
    let w = writing c.args.self.now in
    let u = units_in big c.without_last_lead-units.result in
    let read = c.copy_units-read.result.0 in
    let window : u ≡ utf16_window g.S.UnitSlice.utf16_taken w.free (code_units big (left r)) =
    window_is g.S.UnitSlice.utf16_taken big c.rest-bytes.result.now (left r) u (units_in big c.new.result) w.free c.utf16_count-count.result
    c.without_last_lead-units.ensures (c.new.ensures big) c.utf16_count-count.ensures.taken c.rest-bytes.ensures in
    let most : length u ≤ c.utf16_count-count.result =
    window_le c.utf16_count-count.result u (units_in big c.new.result) (code_units big c.rest-bytes.result.now) c.without_last_lead-units.ensures (c.new.ensures big) in
    let same = ap length c.rest-bytes.ensures in
    let moved : length (left r) - (length c.rest-bytes.result.now - 2 * read) ≡ 2 * read =
    omega (arith, most, same, c.utf16_count-count.ensures.within, c.copy_units-read.ensures.within) in
    let units : CopiesUnits g.S.UnitSlice.encode u g.S.UnitSlice.utf16_room w (writing c.copy_units-read.new.self) read false =
    subst (λ (b : Bool). CopiesUnits g.S.UnitSlice.encode u g.S.UnitSlice.utf16_room w (writing c.copy_units-read.new.self) read b) c.if-unpaired.false c.copy_units-read.ensures in
    rw (← window)
    (copies16_none g.S.UnitSlice.encode u g.S.UnitSlice.utf16_room r _ w (writing c.copy_units-read.new.self) read units (c.read_until.ensures ∙ ap (after_reading r) moved))
