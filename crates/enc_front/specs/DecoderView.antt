-- What a decoder shows.
use Rattle.std.specs.Prelude.{ℕ, false, List, [], ◌++◌}
use Rattle.enc_drivers.specs.declared.unit.Mode.{Mode}
use Rattle.enc_drivers.specs.declared.unit.Mode.TheVariants.{Plain}
use Rattle.enc_front.specs.declared.decoder.Decoder.{Decoder}
use Rattle.enc_front.specs.declared.encoding.Encoding.{Encoding}
use Rattle.enc_front.specs.declared.mark.Start.{Start}
use Rattle.enc_front.specs.declared.mark.Start.TheVariants.{Any, Own, Seen, Over}
use Rattle.enc_front.specs.Decoder.{Marks, DecoderPlace, DecoderStanding}
use Rattle.enc_front.specs.Indexes.{Indexes, indexes_of}
use Rattle.enc_front.specs.Start.{part_bytes, marks_at}
use Rattle.enc_front.specs.Variant.{standing_in}

-- what is held: at the start the part of a mark that was read, behind it these bytes
abbrev pub held_at : Start → List ℕ → List ℕ
held_at Any held = []
held_at Own held = []
held_at (Seen part) held = part_bytes part
held_at Over held = held

-- the mode: at the start the first one
abbrev pub mode_at : Start → Mode → Mode
mode_at Any mode = Plain
mode_at Own mode = Plain
mode_at (Seen part) mode = Plain
mode_at Over mode = mode

-- where a decoder is in its stream
abbrev pub place_of : Decoder → DecoderPlace
place_of decoder = record {
  indexes = indexes_of decoder.tables.now;
  encoding = decoder.encoding;
  marks = marks_at decoder.start;
  held = held_at decoder.start ((standing_in decoder.variant).held ++ decoder.replay.now);
  mode = mode_at decoder.start (standing_in decoder.variant).mode;
}

-- what a decoder keeps
abbrev pub standing_of : Decoder → DecoderStanding
standing_of decoder =
    record { place = place_of decoder; owes = decoder.owes; finished = decoder.finished }

-- a decoder at the start of a stream
abbrev pub fresh : Marks → Encoding → Indexes → DecoderStanding
fresh marks encoding indexes = record {
  place = record { indexes = indexes; encoding = encoding; marks = marks; held = []; mode = Plain };
  owes = false;
  finished = false;
}
