use Rattle.std.proofs.Common.{◌≡◌, length}
use Rattle.enc_io.specs.Reader.{number}
use Rattle.enc_io.specs.ReaderView.{standing_of}
use Rattle.unwrap.proofs.Copying.{Copying}
use Rattle.unwrap.proofs.text.copy_text.Given as goal

abbrev pub invariant-loop-n : goal.invariant-loop-n
invariant-loop-n g l =
    record {
      copying : Copying (standing_of l.initial.reader) (standing_of l.reader) (g.K.Sink.taken l.initial.out) (g.K.Sink.taken l.out) l.count;
      room : length l.piece ≡ length l.initial.piece;
      faults : g.K.Sink.faults l.out ≡ g.K.Sink.faults l.initial.out;
    }

abbrev pub decreases-loop-n : goal.decreases-loop-n
decreases-loop-n g l = number (standing_of l.reader)
