use Rattle.std.proofs.Common.{◌≡◌, ◌-◌, length, ap, sym, refl, ◌∙◌, arith}
use Rattle.enc_handles.specs.ByteSource.{reading}
use Rattle.enc_handles.specs.Destination.{writing}
use Rattle.enc_handles.specs.Reading.{left, after_reading}
use Rattle.enc_handles.proofs.AsciiLemmas.{written}
use Rattle.enc_handles.proofs.CopyUtf8.{copied_front, moved-le}
use Rattle.enc_handles.proofs.destination.DestinationOver.move_front.Goals as goal

pub read_until-requires : goal.read_until-requires
read_until-requires g c = omega (arith, ap length c.rest-bytes.ensures)

pub overflow_sub-rest : goal.overflow_sub-rest
overflow_sub-rest g c = moved-le g.S.UnitSlice.encode c.rest-bytes.result.now _ _ _ _ c.copy_utf8_at-read.ensures.moved

pub returns : goal.returns
returns g c =
    let r = reading c.args.source.now in
    let w = writing c.args.self.now in
    let bytes = c.rest-bytes.result.now in
    let read = c.copy_utf8_at-read.result.0 in
    let form = g.S.UnitSlice.encode in
    let moved = c.copy_utf8_at-read.ensures.moved in
    let same = ap length c.rest-bytes.ensures in
    let within = moved-le form bytes _ _ _ _ moved in
    let count : length (left r) - (length bytes - read) ≡ read = omega arith in (
      moved.scalars,
      copied_front form r _ w _ bytes _ _ c.args.self.now.pos c.copy_utf8_at-read.result moved (sym c.rest-bytes.ensures)
          (c.read_until.ensures ∙ ap (after_reading r) count)
          (written _ _ _ _ _ _ _ _ moved.text moved.end c.copy_utf8_at-read.ensures.same_buffer refl)
          refl,
    )
