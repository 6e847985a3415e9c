use Rattle.std.proofs.Common.{ap, ◌∙◌, arith, refl}
use Rattle.enc_handles.specs.ByteDestination.{writing}
use Rattle.enc_handles.specs.Writing.{after_writing}
use Rattle.enc_drivers.proofs.EncodeAscii.{encodes_ascii, encodes_unmappable, encodes_past, written_with_room}
use Rattle.enc_drivers.proofs.encoders.encode_run.Goals as goal

pub returns-in_default-clause-goes : goal.returns-in_default-clause-goes
returns-in_default-clause-goes g c = encodes_ascii (g.C.EncodeCode.bytes c.args.code.now) c.requires.ascii g.T.TextSlice.scalars _ _ _ _ c.in_default.ensures

pub returns-in-None-clause-goes : goal.returns-in-None-clause-goes
returns-in-None-clause-goes g c =
    encodes_unmappable (g.C.EncodeCode.bytes c.args.code.now) c.requires.ascii g.T.TextSlice.scalars _ _ _ _ c.in-Some.scalar c.in-Some.ensures

pub returns-in-Some-bytes_of-clause-goes : goal.returns-in-Some-bytes_of-clause-goes
returns-in-Some-bytes_of-clause-goes g c =
    let room = c.in-Some.ensures.room refl in
    let four = c.as_slice.ensures.four in
    let written = written_with_room (writing c.copy_ascii.new.dest) (writing c.write.new.dest) c.as_slice.result.now c.write.result c.write.ensures (omega arith) in
    encodes_past (g.C.EncodeCode.bytes c.args.code.now) c.requires.ascii g.T.TextSlice.scalars _ _ _ (writing c.copy_ascii.new.dest) _ c.in-Some.scalar c.in-Some-bytes_of.bytes c.in-Some.ensures
    c.in-Some-bytes_of.ensures (written ∙ ap (after_writing (writing c.copy_ascii.new.dest)) c.as_slice.ensures.bytes)
