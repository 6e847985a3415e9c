use Rattle.std.proofs.Common.{ap, sym, ◌∙◌}
use Rattle.enc_handles.specs.CharSource.{reading}
use Rattle.enc_handles.specs.ByteDestination.{writing}
use Rattle.enc_handles.specs.Writing.{after_writing}
use Rattle.enc_drivers.proofs.EncodeSteps.{encodes_one, ends_full}
use Rattle.enc_drivers.proofs.encoders.encode_scalar.Goals as goal

pub returns-then-not-write-clause-ends : goal.returns-then-not-write-clause-ends
returns-then-not-write-clause-ends g c =
    let next = c.in-Some.ensures in
    let full = c.if-not-write.ensures in
    let old = reading c.args.source.now in
    let read = reading c.read.new.source in
    let back = reading c.unread.new.self in
    let is = c.unread.ensures.moved ∙ ap (λ place. record (reading c.read.new.source) { place = place }) (c.unread.ensures.place ∙ next.1) in
    ends_full g.C.EncodeCode.max (g.C.EncodeCode.bytes c.args.code.now) (g.met.C.EncodeCode.laws c.args.code.now) (reading c.args.source.now) (reading c.read.new.source)
    (reading c.unread.new.self) (writing c.args.dest.now) (writing c.write.new.dest) c.in-Some.scalar c.in-Some-bytes_of.bytes c.as_slice.result.now
    next.0.same_items is next.2 full.0 c.as_slice.ensures.bytes full.1 c.in-Some-bytes_of.ensures

pub returns-clause-goes : goal.returns-clause-goes
returns-clause-goes g c =
    encodes_one g.T.TextSlice.scalars (g.C.EncodeCode.bytes c.args.code.now) _ _ _ _ c.in-Some.scalar c.in-Some-bytes_of.bytes c.in-Some.ensures.0 (sym c.in-Some-bytes_of.ensures)
    (c.if-not-write.ensures ∙ ap (after_writing (writing c.args.dest.now)) c.as_slice.ensures.bytes)
