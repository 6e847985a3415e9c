use Rattle.std.proofs.Common.{◌≡◌, take, arith, rules}
use Rattle.std.proofs.lemmas.List.{append-nil}
use Rattle.enc_handles.specs.Ascii.{ascii_len, moved_len}
use Rattle.enc_handles.specs.AsciiToBytes.{moved_ascii}
use Rattle.enc_handles.specs.ByteDestination.{writing}
use Rattle.enc_handles.specs.CharSource.{reading}
use Rattle.enc_handles.specs.Reading.{left}
use Rattle.enc_handles.specs.Writing.{after_writing}
use Rattle.enc_drivers.proofs.EncodeAscii.{ascii_front}
use Rattle.enc_drivers.proofs.TextScalars.{last_scalar}
use Rattle.enc_drivers.proofs.encoders.copy_ascii.Goals as goal

pub returns-in-Stop : goal.returns-in-Stop
returns-in-Stop g c =
    let l = left (reading c.args.source.now) in
    let w = writing c.args.dest.now in
    let rests : writing c.copy_ascii_from_check_space_four.follows.lender-at-none ≡ after_writing w (moved_ascii l w.free) = search rules in
    record {
      ascii = moved_ascii l w.free;
      each = ascii_front l (moved_len l w.free) (omega arith);
      reads = rw (append-nil (moved_ascii l w.free)) c.in-Stop.ensures.stopped.scalars;
      writes = rests;
      room = λ e. absurd cc;
    }

pub returns-in-GoOn : goal.returns-in-GoOn
returns-in-GoOn g c =
    let l = left (reading c.args.source.now) in
    let on = c.in-GoOn.ensures.went_on in
    record {
      ascii = take (ascii_len l) l;
      each = ascii_front l (ascii_len l) (omega arith);
      reads = rw c.scalar_of.ensures on.scalars;
      writes = let w = on.written in search rules;
      room = λ e. let w = on.room in search rules;
    }

pub scalar_of-requires : goal.scalar_of-requires
scalar_of-requires g c =
    last_scalar g.T.TextSlice.scalars (reading c.args.source.now) _ (take (ascii_len (left (reading c.args.source.now))) (left (reading c.args.source.now))) _
    c.in-GoOn.ensures.went_on.scalars c.requires
