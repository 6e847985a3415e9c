-- What a reader of a stream's text shows.
use Rattle.std.specs.Prelude.{length, take, drop}
use Rattle.std.specs.Option.{option_map}
use Rattle.enc_front.specs.Indexes.{indexes_of}
use Rattle.enc_front.specs.DecoderView as decoder
use Rattle.enc_io.specs.declared.outside.Source.{Ghosts}
use Rattle.enc_io.specs.declared.reader.DecodeReaderBytes.{DecodeReaderBytes}
use Rattle.enc_io.specs.BuilderView.{options_of}
use Rattle.enc_io.specs.Peeking as peeker
use Rattle.enc_io.specs.Reader.{ReaderStanding}
use Rattle.enc_io.specs.Tiny.{waiting_of}

-- its source
abbrev pub source_of : {S : Type 0} {g : Ghosts S} → DecodeReaderBytes S g → S
source_of reader = peeker.source_of reader.rdr

-- what it keeps
abbrev pub standing_of : {S : Type 0} {g : Ghosts S} → DecodeReaderBytes S g → ReaderStanding
standing_of {g} reader = record {
  options = options_of reader.options;
  indexes = indexes_of reader.tables.now;
  peeker = peeker.standing_of reader.rdr;
  detected = reader.has_detected;
  decoder = option_map decoder.standing_of reader.decoder;
  tiny = waiting_of reader.tiny;
  buffered = drop reader.pos (take reader.buflen reader.buf.items);
  buffer = length reader.buf.items;
  taken = reader.taken;
  left = g.left (source_of reader);
  faults = g.faults (source_of reader);
  calls = g.calls (source_of reader);
}
