use Rattle.std.proofs.Common.{◌≡◌, ℕ, ◌-◌, List, [], ◌∷◌, ◌++◌, length, drop, sym, ap, ◌∙◌, arith}
use lib.Utf8.{encode}
use Rattle.enc_handles.specs.ByteSource.{reading}
use Rattle.enc_handles.specs.Destination.{writing}
use Rattle.enc_handles.specs.Reading.{left, after_reading}
use Rattle.enc_handles.specs.Utf8.{sequence_len}
use Rattle.enc_handles.proofs.CopyUtf8.{copied_more, copies_none, copies_full}
use Rattle.enc_handles.proofs.destination.DestinationOverDestination.copy_utf8_up_to_invalid_from.Goals as goal

pub loop-bytes-init : goal.loop-bytes-init
loop-bytes-init g c = c.move_front.ensures

pub returns-then-len-eq0 : goal.returns-then-len-eq0
returns-then-len-eq0 g c =
    copies_none g.S.UnitSlice.encode (reading c.args.source.now) (reading c.loop-bytes.source) (writing c.args.self.now) (writing c.loop-bytes.self)
    c.loop-bytes.invariant.0 c.loop-bytes.invariant.1
    (ap sequence_len (sym c.rest-bytes.ensures) ∙ (sym c.sequence_len-len.ensures.value ∙ c.if-len-eq0.true))

pub returns-then-unit_count-self : goal.returns-then-unit_count-self
returns-then-unit_count-self g c =
    copies_full g.S.UnitSlice.encode (reading c.args.source.now) (reading c.loop-bytes.source) (writing c.args.self.now) (writing c.loop-bytes.self)
    c.loop-bytes.invariant.0 c.sequence_scalar-code.result (drop c.sequence_len-len.result c.rest-bytes.result.now) c.loop-bytes.invariant.1
    (sym c.rest-bytes.ensures ∙ c.sequence_scalar-code.ensures.front)
    (omega (arith, c.unit_count.ensures, c.text_len.ensures))

pub loop-bytes-preserved : goal.loop-bytes-preserved
loop-bytes-preserved g c =
    let r = reading c.loop-bytes.source in
    let code = c.sequence_scalar-code.result in
    let len = c.sequence_len-len.result in
    let same = ap length c.rest-bytes.ensures in
    let count : length (left r) - (length c.rest-bytes.result.now - len) ≡ len = omega (arith, same, c.sequence_scalar-code.ensures.within) in (
      c.loop-bytes.invariant.0 ++ code ∷ [],
      copied_more g.S.UnitSlice.encode (reading c.args.source.now) r _ (writing c.args.self.now) (writing c.loop-bytes.self) _
          c.loop-bytes.invariant.0 code len c.loop-bytes.invariant.1
          c.sequence_scalar-code.ensures.scalar c.sequence_scalar-code.ensures.len
          (sym c.rest-bytes.ensures ∙ (c.sequence_scalar-code.ensures.front ∙ ap (λ (l : List ℕ). encode code ++ drop len l) c.rest-bytes.ensures))
          (c.read_until.ensures ∙ ap (after_reading r) count)
          c.put_scalar.ensures
          (omega (arith, c.unit_count.ensures, c.text_len.ensures)),
    )
