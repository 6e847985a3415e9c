use Rattle.std.proofs.Common.{◌≡◌, ◌≤◌, ◌+◌, ◌-◌, ◌*◌, false, length, take}
use Rattle.enc_front.specs.DecoderCalls.{Replaces, owed_count}
use Rattle.enc_front.specs.DecoderView.{place_of, standing_of}
use Rattle.enc_front.proofs.decoder.Decoder.decode_replacing.Given as goal

abbrev pub invariant-loop : goal.invariant-loop
invariant-loop g l = record {
  replaces : Replaces g.E.Element.output l.last (standing_of l.initial.self)
      (standing_of l.self) l.src l.read (take l.written (g.E.Element.values l.dst)) l.replaced;
  read : l.read ≤ length l.src;
  written : l.written ≤ length l.dst;
  short : l.written + 3 * (length (place_of l.self).held + owed_count (standing_of l.self))
      ≤ 3 * (length (place_of l.initial.self).held + l.read + owed_count
      (standing_of l.initial.self));
  unfinished : (standing_of l.self).finished ≡ false;
}

abbrev pub decreases-loop : goal.decreases-loop
decreases-loop g l = length (place_of l.self).held + (length l.src - l.read)
