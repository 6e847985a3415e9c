-- What a reader of a stream behind its mark shows.
use Rattle.std.specs.Prelude.{drop}
use Rattle.enc_io.specs.declared.outside.Source.{Ghosts}
use Rattle.enc_io.specs.declared.peeker.BomPeeker.{BomPeeker}
use Rattle.enc_io.specs.Marks.{bom_bytes}
use Rattle.enc_io.specs.Peeker.{PeekerStanding}

-- what a reader keeps
abbrev pub standing_of : {S : Type 0} {g : Ghosts S} → BomPeeker S g → PeekerStanding
standing_of peeker = record {
  strips = peeker.strips;
  gathered = bom_bytes peeker.bom;
  peeked = peeker.peeked;
  waiting = drop peeker.place (bom_bytes peeker.bom);
  ended = peeker.ended;
}

-- its source
abbrev pub source_of : {S : Type 0} {g : Ghosts S} → BomPeeker S g → S
source_of peeker = peeker.source
