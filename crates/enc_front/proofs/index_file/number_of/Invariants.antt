use Rattle.std.proofs.Common.{◌≡◌, ◌^◌, ◌<◌, take}
use Rattle.enc_front.specs.IndexFile.{digits_number}
use Rattle.enc_front.proofs.index_file.number_of.Given as goal

abbrev pub invariant-loop-b : goal.invariant-loop-b
invariant-loop-b l =
    record {
      value : l.number ≡ digits_number l.base (take l.b-index l.digits);
      below : l.number
          < l.base ^ l.b-index;
    }
