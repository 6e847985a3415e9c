use Rattle.std.proofs.Common.{◌≡◌, length, [], true}
use Rattle.std.specs.Prelude.{is_some}
use Rattle.enc_io.specs.ReaderCalls.{GoesOn, turns}
use Rattle.enc_io.specs.ReaderView.{standing_of}
use Rattle.enc_io.proofs.reader.DecodeReaderBytes.transcode.Given as goal

abbrev pub invariant-loop-count : goal.invariant-loop-count
invariant-loop-count g l =
    record {
      same_length : length l.buf ≡ length l.initial.buf;
      goes_on : GoesOn (standing_of l.fn.self) (standing_of l.self) [];
      detected : (standing_of l.self).detected ≡ true;
      some : is_some (standing_of l.self).decoder ≡ true;
      none_waits : (standing_of l.self).tiny ≡ [];
    }

abbrev pub decreases-loop-count : goal.decreases-loop-count
decreases-loop-count g l = turns (standing_of l.self)
