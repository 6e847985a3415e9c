use Rattle.std.proofs.Common.{◌≡◌, ℕ, ◌+◌, ◌<◌, ◌≤◌, List, ◌++◌, length, drop}
use Rattle.enc_front.specs.Decoder.{to_come, encoding_to_come}
use Rattle.enc_front.specs.DecoderCalls.{DecoderNeedsLast}
use Rattle.enc_front.specs.DecoderSteps.{SameEnd}
use Rattle.enc_front.specs.DecoderView.{place_of, standing_of}
use Rattle.enc_front.proofs.decoder.Decoder.look_for_mark.Given as goal

abbrev pub invariant-loop-byte : goal.invariant-loop-byte
invariant-loop-byte l = record {
  count : l.read ≡ l.byte-index;
  same : (more : List ℕ)
      → to_come (place_of l.initial.self) (l.src ++ more)
      ≡ to_come (place_of l.self) (drop l.byte-index l.src ++ more);
  same_encoding : (more : List ℕ)
      → encoding_to_come (place_of l.initial.self) (l.src ++ more)
      ≡ encoding_to_come (place_of l.self) (drop l.byte-index l.src ++ more);
  same_indexes : (place_of l.self).indexes ≡ (place_of l.initial.self).indexes;
  held : length (place_of l.self).held ≤ length (place_of l.initial.self).held + l.read;
  needs : 0 < l.read → 0 < length (place_of l.self).held
      → DecoderNeedsLast l.last (place_of l.initial.self) l.src l.read
      (length (place_of l.self).held);
  same_end : SameEnd (standing_of l.initial.self) (standing_of l.self);
}
