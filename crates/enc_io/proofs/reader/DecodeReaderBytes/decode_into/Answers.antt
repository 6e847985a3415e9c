use Rattle.std.proofs.Common.{refl, ap, sym, subst, arith, ◌-◌, ◌<◌, ◌∙◌, take, drop, length}
use Rattle.std.specs.Option.{option_map}
use Rattle.std.proofs.lemmas.List.{drop-drop}
use Rattle.std.proofs.lemmas.List.Elements.{All-drop}
use Rattle.enc_front.specs.DecoderView as decoder
use Rattle.enc_io.specs.Marks.{bom_bytes}
use Rattle.enc_io.specs.Pieces.{DecodesPiece}
use Rattle.enc_io.specs.Tiny.{waiting_of}
use Rattle.enc_io.proofs.PeekerLemmas.{slice_waits, gathered_few, gathered_bytes}
use Rattle.enc_io.proofs.PieceLemmas.{goes_decode, finished_still}
use Rattle.enc_io.proofs.reader.DecodeReaderBytes.decode_into.Given.{Over}
use Rattle.enc_io.proofs.reader.DecodeReaderBytes.decode_into.Goals as goal

pub decode_piece-read-requires-clause-piece : goal.decode_piece-read-requires-clause-piece
decode_piece-read-requires-clause-piece g c = λ last.
    let self = c.args.self.now in
    ap (λ l. take (self.buflen - self.pos) (drop self.pos l)) c.deref.ensures.value
    ∙ slice_waits self.pos self.buflen self.buf.items self.pos_within
    ∙ (c.requires.end last).1

-- what was decoded is what is buffered
piece : (g : Over) (c : goal.After-self-2-1 g)
    → DecodesPiece c.args.last (decoder.standing_of c.in-Some.decoder) (decoder.standing_of c.decode_piece-read.new.decoder)
    (drop c.args.self.now.pos (take c.args.self.now.buflen c.args.self.now.buf.items)) c.decode_piece-read.result.0
    (take c.decode_piece-read.result.1 c.decode_piece-read.new.buf) (waiting_of c.decode_piece-read.new.tiny)
piece g c =
    let self = c.args.self.now in
    subst (λ l. DecodesPiece c.args.last (decoder.standing_of c.in-Some.decoder) (decoder.standing_of c.decode_piece-read.new.decoder)
    l c.decode_piece-read.result.0 (take c.decode_piece-read.result.1 c.decode_piece-read.new.buf) (waiting_of c.decode_piece-read.new.tiny))
    (ap (λ l. take (self.buflen - self.pos) (drop self.pos l)) c.deref.ensures.value ∙ slice_waits self.pos self.buflen self.buf.items self.pos_within)
    c.decode_piece-read.ensures.piece

pub returns-clause-goes_on : goal.returns-clause-goes_on
returns-clause-goes_on g c =
    let self = c.args.self.now in
    let bom = self.rdr.bom in
    let src = ap (λ l. take (self.buflen - self.pos) (drop self.pos l)) c.deref.ensures.value ∙ slice_waits self.pos self.buflen self.buf.items self.pos_within in
    let before = ap (option_map decoder.standing_of) c.in-Some.is in
    goes_decode _ _ _ _ _ _ _ (piece g c) c.requires.detected c.requires.none_waits before refl (c.requires.unfinished _ before)
    refl (sym (drop-drop c.decode_piece-read.result.0 self.pos (take self.buflen self.buf.items)))
    (omega (arith, c.decode_piece-read.ensures.read, ap length src))
    (All-drop (λ x. x < 256) self.rdr.place (bom_bytes bom) (gathered_bytes bom.bytes bom.len bom.are_bytes))
    c.requires.end (gathered_few bom.bytes bom.len bom.within) c.requires.within

pub returns-clause-end : goal.returns-clause-end
returns-clause-end g c = λ none last.
    let all = (piece g c).all (ap (λ n. take n c.decode_piece-read.new.buf) none) in
    record {
      ended = (c.requires.end last).0.ended;
      nothing = finished_still _ _ c.requires.detected refl (all.4 ∙ last) all.1;
    }
