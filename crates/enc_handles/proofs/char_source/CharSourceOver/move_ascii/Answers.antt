use Rattle.std.proofs.Common.{◌≤◌, arith}
use Rattle.enc_handles.specs.Reading.{left}
use Rattle.enc_handles.specs.CharSource.{reading}
use Rattle.enc_handles.specs.ByteDestination.{writing}
use Rattle.enc_handles.proofs.CharLemmas.{went, room_left, past_behind}
use Rattle.enc_handles.proofs.char_source.CharSourceOver.move_ascii.Goals as goal

pub returns-clause-went_on : goal.returns-clause-went_on
returns-clause-went_on g c =
    let old = reading c.args.self.now in
    let now = reading c.copy_ascii.new.self in
    let before = writing c.args.dest.now in
    let after = writing c.copy_ascii.new.dest in
    let room : c.args.needed ≤ after.free = omega arith in
    let fits = room_left (left old) before after c.args.needed c.copy_ascii.ensures.text c.requires room in
    went g.T.TextSlice.scalars g.T.TextSlice.first_len c.args.needed old now (reading c.next.new.self)
    before after c.next.result c.non_ascii_of.result fits
    c.copy_ascii.ensures.read c.copy_ascii.ensures.scalars c.copy_ascii.ensures.text
    c.next.ensures.scalar c.next.ensures.read c.next.ensures.scalars
    (c.next.ensures.past_ascii (past_behind old now before.free fits c.copy_ascii.ensures.read (omega arith))) room c.non_ascii_of.ensures
