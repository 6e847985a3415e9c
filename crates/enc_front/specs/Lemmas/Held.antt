-- A decoder holds at most three bytes.
use Rattle.std.proofs.Common.{ℕ, ◌+◌, ◌≤◌, List, ◌++◌, length, arith, length-append}
use Rattle.enc_front.specs.declared.decoder.Decoder.{Decoder}
use Rattle.enc_front.specs.declared.mark.MarkPart.{MarkPart}
use Rattle.enc_front.specs.declared.mark.MarkPart.TheVariants.{Ef, EfBb, Fe, Ff}
use Rattle.enc_front.specs.declared.mark.Start.{Start}
use Rattle.enc_front.specs.declared.mark.Start.TheVariants.{Any, Own, Seen, Over}
use Rattle.enc_front.specs.DecoderView.{held_at, place_of}
use Rattle.enc_front.specs.Start.{part_bytes}
use Rattle.enc_front.specs.Variant.{standing_in}

pub few_bytes : (part : MarkPart) → length (part_bytes part) ≤ 3
few_bytes Ef = omega arith
few_bytes EfBb = omega arith
few_bytes Fe = omega arith
few_bytes Ff = omega arith

pub few_at : (start : Start) (a replay : List ℕ) → length a + length replay ≤ 3
    → length (held_at start (a ++ replay)) ≤ 3
few_at Any a replay few = omega arith
few_at Own a replay few = omega arith
few_at (Seen part) a replay few = few_bytes part
few_at Over a replay few = omega (arith, length-append a replay)

pub few_held : (decoder : Decoder) → length (place_of decoder).held ≤ 3
few_held decoder = few_at decoder.start (standing_in decoder.variant).held decoder.replay.now
    decoder.few
